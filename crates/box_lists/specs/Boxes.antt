-- The boxes of a page: those of every glyph box that is not passed over, in order, and no others.
use Rattle.std.specs.Prelude.{◌≡◌, false, not, List, map, ℕ, ◌<◌, Float, length, get_or}
use Rattle.std.specs.Int.{from_bool}
use Rattle.lists.specs.Lists.{In, below, keep, concat}
use Rattle.rects.specs.Rects.{rect_at, numbers_of, count}
use Rattle.ink.specs.Ink.{Ink}
use Rattle.glyph_tests.specs.declared.limits.Limits.{Limits}
use Rattle.glyph_tests.specs.declared.found.CheckBox.{CheckBox}
use Rattle.glyph_tests.specs.Glyph.{passed_over, box_of}

-- The places of the first n glyph boxes that are not passed over.
abbrev pub chosen : Ink → Limits → List ℕ → ℕ → List ℕ
chosen ink l glyphs n = keep (λ k. not (passed_over ink l (rect_at glyphs k))) (below n)

-- The boxes of the first n glyph boxes.
unfoldable pub boxes_below : Ink → Limits → List ℕ → ℕ → List CheckBox
boxes_below ink l glyphs n = map (λ k. box_of ink l (rect_at glyphs k)) (chosen ink l glyphs n)

-- The boxes of a page.
abbrev pub boxes_of : Ink → Limits → List ℕ → List CheckBox
boxes_of ink l glyphs = boxes_below ink l glyphs (count glyphs)

-- A list ascends: each entry is below those behind it.
abbrev pub Ascends : List ℕ → Type 0
Ascends ks = (j k : ℕ) → j < k → k < length ks → get_or ks j 0 < get_or ks k 0

-- The places ks ascend and are those of the glyph boxes that are not passed over, all of them and no others; there are as many boxes bs as places, and
-- box k is that of the glyph box at entry k of ks. (`past` stands for what lies past the end.)
pub record EveryBox (ink : Ink) (l : Limits) (glyphs ks : List ℕ) (bs : List CheckBox) : Type 0 where
  pub ascending : Ascends ks
  pub no_other : (k : ℕ) → In ks k → (k < count glyphs) × (passed_over ink l (rect_at glyphs k) ≡ false)
  pub each : (k : ℕ) → k < count glyphs → passed_over ink l (rect_at glyphs k) ≡ false → In ks k
  pub as_many : length bs ≡ length ks
  pub box : (k : ℕ) (past : CheckBox) → k < length ks → get_or bs k past ≡ box_of ink l (rect_at glyphs (get_or ks k 0))

-- What the lists of a page hold: four numbers a box, its mark, 1 for a ticked box and 0 for an empty one, its edge coverage.
abbrev pub frames_of : List CheckBox → List ℕ
frames_of bs = concat (map (λ b. numbers_of b.bbox) bs)

abbrev pub marks_of : List CheckBox → List ℕ
marks_of bs = map (λ b. from_bool b.ticked) bs

abbrev pub coverages_of : List CheckBox → List Float
coverages_of bs = map (λ b. b.edge_coverage) bs
