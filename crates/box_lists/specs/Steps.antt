-- What the functions of `box_lists` ask and leave; none of it is needed to read the contract of `boxes`.
use Rattle.std.specs.Prelude.{◌≡◌, Option, Some, None, List, [], ◌∷◌, ℕ, ◌+◌, ◌*◌, ◌≤◌, ◌<◌, length}
use Rattle.std.proofs.lemmas.List.Edits.{sets}
use Rattle.lists.specs.Lists.{written}
use Rattle.rects.specs.Rects.{count, rect_at, width_of}
use Rattle.rects.specs.Steps.{AllInside}
use Rattle.ink.specs.Ink.{ink_at}
use Rattle.ink.specs.Steps.{Readable}
use Rattle.glyph_tests.specs.declared.limits.Limits.{Limits}
use Rattle.glyph_tests.specs.declared.found.CheckBox.{CheckBox}
use Rattle.box_lists.specs.declared.lent.Lists.{Lists}
use Rattle.box_lists.specs.Lent.{Lent}
use Rattle.box_lists.specs.Boxes.{boxes_of, frames_of, marks_of, coverages_of}

-- The boxes that were found: none or one.
abbrev pub listed : Option CheckBox → List CheckBox
listed None = []
listed (Some b) = b ∷ []

-- The content of the lists of a struct.
abbrev pub lists_of : Lists → Lent
lists_of l = record { rects = l.rects.now; marks = l.marks.now; coverages = l.coverages.now }

-- The struct still holds the lists that it held.
pub record Same (l l' : Lists) : Type 0 where
  pub rects : l'.rects.ghost_name ≡ l.rects.ghost_name
  pub marks : l'.marks.ghost_name ≡ l.marks.ghost_name
  pub coverages : l'.coverages.ghost_name ≡ l.coverages.ghost_name

-- There is room for one more box after n.
pub record RoomAt (n : ℕ) (lent : Lent) : Type 0 where
  pub rects : 4 * n + 4 ≤ length lent.rects
  pub marks : n < length lent.marks
  pub coverages : n < length lent.coverages

-- What was found is stored after n boxes.
pub record Stored (found : Option CheckBox) (n : ℕ) (lent lent' : Lent) (n' : ℕ) : Type 0 where
  pub rects : lent'.rects ≡ sets lent.rects (4 * n) (frames_of (listed found))
  pub marks : lent'.marks ≡ sets lent.marks n (marks_of (listed found))
  pub coverages : lent'.coverages ≡ sets lent.coverages n (coverages_of (listed found))
  pub number : n' ≡ n + length (listed found)

-- A page that passed its questions: every glyph box can be read, and there is room for as many boxes.
pub record Ready (mask : List ℕ) (w : ℕ) (glyphs : List ℕ) (l : Limits) (lent : Lent) : Type 0 where
  pub readable : (k : ℕ) → k < count glyphs → Readable (record { bytes = mask; w = w }) (rect_at glyphs k)
  pub tolerance : l.box_tolerance_px ≤ 3
  pub rects : 4 * count glyphs ≤ length lent.rects
  pub marks : count glyphs ≤ length lent.marks
  pub coverages : count glyphs ≤ length lent.coverages

-- The width of each glyph box fits 32 bits.
abbrev pub Widths : List ℕ → Type 0
Widths glyphs = (k : ℕ) → k < count glyphs → ((rect_at glyphs k).x0 ≤ (rect_at glyphs k).x1) × ((rect_at glyphs k).x1 < 8192)

-- r is the first place at or past another whose glyph box is at least so wide, and the number of glyph boxes where there is none.
pub record NextWide (glyphs : List ℕ) (least from r : ℕ) : Type 0 where
  pub later : from ≤ r
  pub up_to : r ≤ count glyphs
  pub narrow : (k : ℕ) → from ≤ k → k < r → width_of (rect_at glyphs k) < least

-- What the core leaves: the boxes, no more of them than glyph boxes, each inside the picture that the glyph boxes are inside, and below 8,192.
pub record Made (mask : List ℕ) (w : ℕ) (glyphs : List ℕ) (l : Limits) (lent lent' : Lent) (n : ℕ) : Type 0 where
  pub few : n ≤ count glyphs
  pub count : n ≡ length (boxes_of (ink_at w mask) l glyphs)
  pub rects : lent'.rects ≡ written (frames_of (boxes_of (ink_at w mask) l glyphs)) lent.rects
  pub marks : lent'.marks ≡ written (marks_of (boxes_of (ink_at w mask) l glyphs)) lent.marks
  pub coverages : lent'.coverages ≡ written (coverages_of (boxes_of (ink_at w mask) l glyphs)) lent.coverages
  pub in_picture : (h : ℕ) → AllInside w h glyphs → AllInside w h (frames_of (boxes_of (ink_at w mask) l glyphs))
  pub below_8192 : AllInside 8192 8192 (frames_of (boxes_of (ink_at w mask) l glyphs))
