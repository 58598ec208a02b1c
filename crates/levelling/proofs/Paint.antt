-- A run of page columns that share a shear, in one levelled row: white off the page, and a run of a page row on it.
use mathlib.Core.Path.{◌≡◌, sym, ap, ◌∙◌}
use mathlib.Core.Logic.{◌⊎◌}
use mathlib.Core.List.{List}
use Prim.Native.Nat.{ℕ, ◌+◌, ◌-◌, ◌*◌, ◌≤◌, ◌<◌}
use native.Mathlib.Nat.{add_assoc}
use lib.ListN.{length, get_or, take, drop, replicate, length-replicate, get_or-replicate}
use lib.Seq.{get_or-take, get_or-drop}
use Rattle.layout.specs.declared.sides.Sides.{Sides}
use Rattle.layout.specs.Level.{column_shows}
use Rattle.levelling.specs.Steps.{Painted}
use Rattle.layout.proofs.Shows.{column_on, column_off}

module _ (sides : Sides) (gray : List ℕ) (s from y : ℕ) (out out' : List ℕ) where
  pub off_page : (y < s) ⊎ ((s ≤ y) × (sides.ph ≤ y - s)) → out' ≡ replicate (length out) 255 → Painted (column_shows sides gray s) from y out out'
  off_page off e =
      record {
        long = ap length e ∙ length-replicate (length out) 255;
        shows = λ k h. ap (λ (l : List ℕ). get_or l k 0) e ∙ get_or-replicate (length out) k 255 0 h ∙ sym (column_off sides gray (from + k) y s off);
      }

  pub on_page_lem : s ≤ y → y - s < sides.ph → length out' ≡ length out → out' ≡ take (length out) (drop ((y - s) * sides.pw + from) gray) → Painted (column_shows sides gray s) from y out out'
  on_page_lem g h l e =
      record {
        long = l;
        shows = λ k m.
            ap (λ (xs : List ℕ). get_or xs k 0) e
            ∙ get_or-take (length out) (drop ((y - s) * sides.pw + from) gray) k 0 m
            ∙ get_or-drop ((y - s) * sides.pw + from) gray k 0
            ∙ ap (λ (i : ℕ). get_or gray i 0) (add_assoc ((y - s) * sides.pw) from k)
            ∙ sym (column_on sides gray (from + k) y s g h);
      }
