-- The order of findings: stably by page y0, x0, kind number.
use Rattle.std.specs.Prelude.{◌≡◌, ◌⊎◌, false, List, map, ℕ, ◌+◌, ◌-◌, ◌*◌, ◌<◌, length, get_or}
use Rattle.math.specs.Constants.{zero}
use Rattle.order.specs.Order.{sorted_indexes}
use Rattle.layout.specs.declared.rect.PageRect.{PageRect}
use Rattle.evidence.specs.declared.finding.Finding.{Finding}
use Rattle.evidence.specs.declared.finding.Kind.TheVariants.{Fold}
use Rattle.evidence.specs.Finding.{kind_number, no_evidence}

-- One finding stands before another by page y0, x0, kind number.
abbrev pub Sooner : Finding → Finding → Type 0
Sooner f g =
    (f.bbox.y0 < g.bbox.y0)
    ⊎ ((f.bbox.y0 ≡ g.bbox.y0)
    × ((f.bbox.x0 < g.bbox.x0) ⊎ ((f.bbox.x0 ≡ g.bbox.x0) × (kind_number f.kind < kind_number g.kind))))

-- y0, x0 and the kind's number as one number. Of page coordinates below 8,192 it orders as the three do one after the other (`key_sooner`).
abbrev pub page_key : PageRect → ℕ → ℕ
page_key r kind = (r.y0 * 8192 + r.x0) * 4 + (kind - 16)

abbrev pub key_of : Finding → ℕ
key_of f = page_key f.bbox (kind_number f.kind)

-- Stands for what lies past the end of a list of findings.
abbrev pub no_finding : Finding
no_finding = record { log_odds = zero; bbox = record { x0 = 0; y0 = 0; x1 = 0; y1 = 0 }; first = no_evidence; kind = Fold false zero }

-- The findings of a list stably sorted by key (`ordered` is the law).
unfoldable pub in_order : List Finding → List Finding
in_order made = map (λ k. get_or made k no_finding) (sorted_indexes (map key_of made))

-- Finding i of a list is g.
abbrev pub Stands : List Finding → ℕ → Finding → Type 0
Stands fs i g = (i < length fs) × (get_or fs i g ≡ g)

-- The same page y0, x0 and kind number.
abbrev pub Level : Finding → Finding → Type 0
Level f g = (f.bbox.y0 ≡ g.bbox.y0) × (f.bbox.x0 ≡ g.bbox.x0) × (kind_number f.kind ≡ kind_number g.kind)

-- The findings fs are those of a list, each once, in document 01's order; finding i of them is number `from i` of the list.
pub record Ordered (made fs : List Finding) (from : ℕ → ℕ) : Type 0 where
  pub as_many : length fs ≡ length made
  pub is : (i : ℕ) (g : Finding) → Stands fs i g → Stands made (from i) g
  pub each : (m : ℕ) → m < length made → (i : ℕ) × (i < length fs) × (from i ≡ m)
  pub apart : (i j : ℕ) → i < length fs → j < length fs → from i ≡ from j → i ≡ j
  pub sorted : (i j : ℕ) (f g : Finding) → i < j → Stands fs i f → Stands fs j g → Sooner f g ⊎ (Level f g × (from i < from j))
