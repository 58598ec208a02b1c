-- What `boxes` is given and lent, the questions that it puts, and what it promises.
use Rattle.std.specs.Prelude.{◌≡◌, Bool, cond, ◌&&◌, List, [], ◌∷◌, ◌++◌, ℕ, ◌*◌, leb, eqb, Float, length}
use Rattle.lists.specs.Lists.{written}
use Rattle.questions.specs.Questions.{Question, first_missed}
use Rattle.rects.specs.Rects.{count, count_fits, all_inside}
use Rattle.layout.specs.Sides.{levelled_sides_fit, raster_fits}
use Rattle.params.specs.declared.settings.RulingsParams.{RulingsParams}
use Rattle.params.specs.Scan.{scan_questions}
use Rattle.params.specs.Settings.{settings_questions}
use Rattle.ink.specs.Ink.{ink_at}
use Rattle.boxes.specs.declared.Answer.{Answer}
use Rattle.glyph_tests.specs.declared.found.CheckBox.{CheckBox}
use Rattle.glyph_tests.specs.Limits.{box_limits_of}
-- The lists that it is lent, by name: the answers, and no others.
pub use Rattle.box_lists.specs.Lent.{Lent}
use Rattle.box_lists.specs.Boxes.{chosen, boxes_of, EveryBox, frames_of, marks_of, coverages_of}

-- What the call is given; w and h are the levelled sides.
pub record Given : Type 0 where
  pub w : ℕ
  pub h : ℕ
  pub dpi : ℕ
  pub xheight : Float
  pub settings : RulingsParams
  pub ink : List ℕ
  pub glyphs : List ℕ

-- Question 14: room for as many boxes as glyph boxes.
abbrev pub room_for : ℕ → Lent → Bool
room_for n l = leb (4 * n) (length l.rects) && leb n (length l.marks) && leb n (length l.coverages)

abbrev pub has_room : Given → Lent → Bool
has_room g l = room_for (count g.glyphs) l

-- The questions about what is given, in document 01's order: 1, 2, 3 (ink), 5, 6, 7 to 11, 13.
abbrev pub given_questions : Given → List Question
given_questions g =
    (1, levelled_sides_fit g.w g.h)
    ∷ scan_questions g.dpi g.xheight
    ++ (3, raster_fits g.w g.h (length g.ink))
    ∷ (5, count_fits 16384 g.glyphs)
    ∷ (6, all_inside g.w g.h g.glyphs)
    ∷ settings_questions g.settings

-- All questions that it puts.
abbrev pub questions : Given → Lent → List Question
questions g l = given_questions g ++ (14, has_room g l) ∷ []

-- The boxes of a page, with the limits that its settings give.
abbrev pub page_boxes : ℕ → ℕ → Float → List ℕ → List ℕ → RulingsParams → List CheckBox
page_boxes w dpi xheight mask glyphs p = boxes_of (ink_at w mask) (box_limits_of dpi xheight p) glyphs

-- The places of its glyph boxes that are not passed over.
abbrev pub page_places : ℕ → ℕ → Float → List ℕ → List ℕ → RulingsParams → List ℕ
page_places w dpi xheight mask glyphs p = chosen (ink_at w mask) (box_limits_of dpi xheight p) glyphs (count glyphs)

-- The boxes of what is given.
abbrev pub boxes : Given → List CheckBox
boxes g = page_boxes g.w g.dpi g.xheight g.ink g.glyphs g.settings

-- What an accepted call leaves: each list is its definition, written from the front, and places past it keep their content.
pub record Answers (g : Given) (l l' : Lent) : Type 0 where
  pub rects : l'.rects ≡ written (frames_of (boxes g)) l.rects
  pub marks : l'.marks ≡ written (marks_of (boxes g)) l.marks
  pub coverages : l'.coverages ≡ written (coverages_of (boxes g)) l.coverages

-- An accepted call: the number 0, and how many boxes there are.
abbrev pub accepted : Given → Answer
accepted g = record { number = 0; count = length (boxes g) }

-- A refused call: the number of the missed question, and no box.
abbrev pub refusal : ℕ → Answer
refusal number = record { number = number; count = 0 }

-- What a call of `boxes` promises: the number of the first missed question, and 0 boxes where one is missed; a refused call leaves every list; an
-- accepted one leaves the answers, and of demand 3, every glyph box that is not passed over is a box, and no other.
pub record Boxes (g : Given) (l l' : Lent) (a : Answer) : Type 0 where
  pub number : a.number ≡ first_missed (questions g l)
  pub counts : a ≡ cond (eqb a.number 0) (accepted g) (refusal a.number)
  pub refused : (a.number ≡ 0 → ⊥) → l' ≡ l
  pub answers : a.number ≡ 0 → Answers g l l'
  pub demand3 :
      a.number ≡ 0
      → EveryBox (ink_at g.w g.ink) (box_limits_of g.dpi g.xheight g.settings) g.glyphs
      (page_places g.w g.dpi g.xheight g.ink g.glyphs g.settings) (boxes g)
