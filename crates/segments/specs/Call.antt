-- What `segments` promises, for accepted and for refused input.
use Rattle.std.specs.Prelude.{ℕ, ◌<◌, ◌≡◌, Bool, cond, ◌&&◌, List, [], eqb, Float, length, get_or}
use Rattle.std.specs.Float.{nan}
use Rattle.lists.specs.Lists.{In, concat, written}
use Rattle.sets.specs.Closed.{Below, Listed}
use Rattle.sets.specs.Listing.{ends_from, ReadAs}
use Rattle.questions.specs.Questions.{Question, first_missed}
use Rattle.rects.specs.Rects.{count, rect_at}
use Rattle.rects.specs.Around.{Smallest, around}
use Rattle.layout.specs.Sides.{raster_fits}
use Rattle.params.specs.declared.settings.RulingsParams.{RulingsParams}
use Rattle.params.specs.Limits.{IsLimit, across_limit, gap_limit}
use Rattle.pieces.specs.Pieces.{horizontal, Touch}
use Rattle.ruling_questions.specs.Lent.{Lent, room_for}
use Rattle.ruling_questions.specs.Questions.{ruling_questions}
use Rattle.segments.specs.declared.segments.Answer.{Answer}
use Rattle.ruling_lists.specs.Rulings.{ordered_sets, direction_of, Near, ruling_rects, directions_of, contrasts_of, StandsBefore}

-- What the call is given: the levelled raster and its sides, the x-height, the settings and the rule pieces.
pub record Given : Type 0 where
  pub raster : List ℕ
  pub w : ℕ
  pub h : ℕ
  pub xheight : Float
  pub settings : RulingsParams
  pub pieces : List ℕ

-- Question 14: the levelled raster is exactly width × height; there is room for as many rulings as pieces, and each index, member or work list has
-- one entry a piece.
abbrev pub has_room : Given → Lent → Bool
has_room g l = raster_fits g.w g.h (length g.raster) && room_for (count g.pieces) l

-- The questions that it puts, in document 01's order.
abbrev pub questions : Given → Lent → List Question
questions g l = ruling_questions g.w g.h g.xheight g.pieces g.settings (has_room g l)

-- The sets of pieces in the order of their rulings, with the limits that the settings and the x-height give.
abbrev pub sets_of : Float → List ℕ → RulingsParams → List (List ℕ)
sets_of xheight pieces p = ordered_sets pieces (across_limit p xheight) (gap_limit p xheight)

-- Those of what is given.
abbrev pub all_sets : Given → List (List ℕ)
all_sets g = sets_of g.xheight g.pieces g.settings

-- What an accepted call leaves: each list is its definition, written from the front, and places past it keep their content.
pub record Answers (g : Given) (l l' : Lent) : Type 0 where
  pub rects : l'.rects ≡ written (ruling_rects g.pieces (all_sets g)) l.rects
  pub directions : l'.directions ≡ written (directions_of g.pieces (all_sets g)) l.directions
  pub contrasts : l'.contrasts ≡ written (contrasts_of g.raster g.w g.h g.pieces (all_sets g)) l.contrasts
  pub piece_members : l'.piece_members ≡ written (concat (all_sets g)) l.piece_members
  pub piece_ends : l'.piece_ends ≡ written (ends_from 0 (all_sets g)) l.piece_ends

-- The limits are the rounded products, not below 0.
pub record Limits (g : Given) : Type 0 where
  pub across : IsLimit g.settings.merge_across_xh g.xheight
  pub gap : IsLimit g.settings.merge_gap_xh g.xheight

-- Demand 3 for pieces: the sets of the rulings are the closed sets, each once; ruling k has the smallest rectangle around set k and the direction
-- of each of its pieces.
pub record Demand3 (pieces : List ℕ) (across gap : ℕ) (ss : List (List ℕ)) : Type 0 where
  pub listed : Listed (Below (count pieces)) (Touch pieces across gap) ss
  pub smallest : (k : ℕ) → k < length ss → Smallest pieces (get_or ss k []) (around pieces (get_or ss k []))
  pub direction : (k i : ℕ) → k < length ss → In (get_or ss k []) i → horizontal (rect_at pieces i) ≡ direction_of pieces (get_or ss k [])

-- The rulings of some sets stand in document 01's order.
abbrev pub InOrder : List ℕ → List (List ℕ) → Type 0
InOrder pieces ss = (k l : ℕ) → k < l → l < length ss → StandsBefore pieces (get_or ss k []) (get_or ss l [])

-- Each listed contrast is within 2^-45 of the exact one of its ruling.
abbrev pub AllNear : List ℕ → ℕ → ℕ → List ℕ → List (List ℕ) → List Float → Type 0
AllNear raster w h pieces ss cs = (k : ℕ) → k < length ss → Near raster w h pieces (get_or ss k []) (get_or cs k nan)

-- An accepted call: the number 0, and how many rulings there are.
abbrev pub accepted : Given → Answer
accepted g = record { number = 0; count = length (all_sets g) }

-- A refused call: the number of the missed question, and no ruling.
abbrev pub refusal : ℕ → Answer
refusal number = record { number = number; count = 0 }

-- What a call of `segments` promises: the number of the first missed question, and 0 rulings where one is missed; a refused call leaves every list,
-- work lists too; an accepted one leaves the answers in document 01's order, each contrast near its exact value, and demand 3 holds of the lists
-- as they are read.
pub record Segments (g : Given) (l l' : Lent) (a : Answer) : Type 0 where
  pub number : a.number ≡ first_missed (questions g l)
  pub counts : a ≡ cond (eqb a.number 0) (accepted g) (refusal a.number)
  pub refused : (a.number ≡ 0 → ⊥) → l' ≡ l
  pub answers : a.number ≡ 0 → Answers g l l'
  pub limits : a.number ≡ 0 → Limits g
  pub order : a.number ≡ 0 → InOrder g.pieces (all_sets g)
  pub near : a.number ≡ 0 → AllNear g.raster g.w g.h g.pieces (all_sets g) l'.contrasts
  pub demand3 :
      a.number ≡ 0
      → Demand3 g.pieces (across_limit g.settings g.xheight) (gap_limit g.settings g.xheight) (all_sets g)
      × ReadAs (all_sets g) l'.piece_members l'.piece_ends a.count
