-- What `box_grids` is given and lent, the questions that it puts, and what it promises.
use Rattle.std.specs.Prelude.{◌≡◌, ℕ, ◌<◌, Bool, true, cond, List, [], ◌∷◌, ◌++◌, map, length, get_or, ◌==◌, ◌≢◌, slice_index_or}
use Rattle.std.specs.Prelude.{Float}
use Rattle.lists.specs.Lists.{concat, written}
use Rattle.sets.specs.Closed.{Below, Listed, ListedWhere}
use Rattle.sets.specs.Listing.{ends_from, ReadAs}
use Rattle.questions.specs.Questions.{Question, first_missed}
use Rattle.rects.specs.Rects.{count, count_fits, all_inside}
use Rattle.params.specs.declared.settings.RulingsParams.{RulingsParams}
use Rattle.params.specs.Scan.{xheight_questions}
use Rattle.params.specs.Settings.{settings_questions}
use Rattle.params.specs.Limits.{IsLimit, align_setting, align_limit}
use Rattle.box_sets.specs.Boxes.{Touch, box_sets}
use Rattle.reading_order.specs.Reading.{InReadingOrder, reading_order}
use Rattle.grids.specs.declared.Answer.{Answer}
use Rattle.grids.specs.Lent.{Lent, room_for}
use Rattle.grids.specs.Grids.{is_grid, grids, readings}

-- What the call is given: the boxes by their rectangles.
pub record Given : Type 0 where
  pub xheight : Float
  pub settings : RulingsParams
  pub rects : List ℕ

-- Question 14: each index, member or work list has one entry a box.
abbrev pub has_room : Given → Lent → Bool
has_room g l = room_for (count g.rects) l

-- The questions about what is given, in document 01's order: 2 (x-height), 5, 6, 7 to 11, 13.
abbrev pub given_questions : Given → List Question
given_questions g =
    xheight_questions g.xheight
    ++ (5, count_fits 16384 g.rects)
    ∷ (6, all_inside 8192 8192 g.rects)
    ∷ settings_questions g.settings

-- All questions that it puts.
abbrev pub questions : Given → Lent → List Question
questions g l = given_questions g ++ (14, has_room g l) ∷ []

-- The closed sets of boxes, with the limit that the settings and the x-height give.
abbrev pub sets_of : Float → RulingsParams → List ℕ → List (List ℕ)
sets_of xheight p rects = box_sets rects (align_limit p xheight)

-- Those of what is given, and the numbers of those that are grids.
abbrev pub all_sets : Given → List (List ℕ)
all_sets g = sets_of g.xheight g.settings g.rects

abbrev pub numbers : Given → List ℕ
numbers g = grids g.settings.grid_min_boxes (all_sets g)

-- What an accepted call leaves: each list is its definition, written from the front, and places past it keep their content.
pub record Answers (g : Given) (l l' : Lent) : Type 0 where
  pub members : l'.members ≡ written (concat (all_sets g)) l.members
  pub ends : l'.ends ≡ written (ends_from 0 (all_sets g)) l.ends
  pub reading : l'.reading ≡ written (readings g.rects (all_sets g)) l.reading
  pub numbers : l'.numbers ≡ written (numbers g) l.numbers

-- The limit is the rounded product, not below 0.
pub record Limits (g : Given) : Type 0 where
  pub align : IsLimit (align_setting g.settings) g.xheight

-- Demand 3 for boxes: a set is listed exactly when it is closed, and then once; the grids are exactly the closed sets that reach the grid
-- minimum, each once; and each reading order has its set's members by y0, then x0, then index.
pub record Demand3 (rects : List ℕ) (limit least : ℕ) : Type 0 where
  pub listed : Listed (Below (count rects)) (Touch rects limit) (box_sets rects limit)
  pub each_grid :
      ListedWhere (Below (count rects)) (Touch rects limit) (is_grid least) (map (λ k. get_or (box_sets rects limit) k []) (grids least (box_sets rects limit)))
  pub each_reading :
      all_inside 8192 8192 rects ≡ true → (k : ℕ) → k < length (box_sets rects limit)
      → InReadingOrder rects (slice_index_or (box_sets rects limit) k []) (reading_order rects (slice_index_or (box_sets rects limit) k []))

-- An accepted call: the number 0, and how many sets and grids there are.
abbrev pub accepted : Given → Answer
accepted g = record { number = 0; sets = length (all_sets g); grids = length (numbers g) }

-- A refused call: the number of the missed question, and every count 0.
abbrev pub refusal : ℕ → Answer
refusal number = record { number = number; sets = 0; grids = 0 }

-- What a call of `box_grids` promises: the number of the first missed question; the counts, all 0 where one is missed; a refused call leaves every
-- list, work lists too; an accepted one leaves the answers, and demand 3 holds of the sets and of their reading orders as they are read.
pub record Grids (g : Given) (l l' : Lent) (a : Answer) : Type 0 where
  pub number : a.number ≡ first_missed (questions g l)
  pub counts : a ≡ cond (a.number == 0) (accepted g) (refusal a.number)
  pub refused : (a.number ≢ 0) → l' ≡ l
  pub answers : a.number ≡ 0 → Answers g l l'
  pub limits : a.number ≡ 0 → Limits g
  pub demand3 :
      a.number ≡ 0
      → Demand3 g.rects (align_limit g.settings g.xheight) g.settings.grid_min_boxes
      × ReadAs (all_sets g) l'.members l'.ends a.sets
      × ReadAs (map (reading_order g.rects) (all_sets g)) l'.reading l'.ends a.sets
