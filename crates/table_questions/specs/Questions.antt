-- The questions that `tables` puts, in document 01's order: 2 (x-height), 5, 6, 7 to 11, 13, 14.
use Rattle.std.specs.Prelude.{Bool, ◌&&◌, List, [], ◌∷◌, ◌++◌, ℕ, leb, eqb, Float, length, get_or}
use Rattle.lists.specs.Lists.{every_below}
use Rattle.questions.specs.Questions.{Question}
use Rattle.params.specs.declared.settings.RulingsParams.{RulingsParams}
use Rattle.params.specs.Scan.{xheight_questions}
use Rattle.params.specs.Settings.{settings_questions}
use Rattle.rects.specs.Rects.{count, count_fits, all_inside}

-- A direction for each rectangle, each 0 or 1.
abbrev pub directions_fit : List ℕ → List ℕ → Bool
directions_fit rects directions = eqb (length directions) (count rects) && every_below (length directions) (λ k. leb (get_or directions k 0) 1)

-- The questions in order; the last is whether every list has room.
abbrev pub table_questions : Float → RulingsParams → List ℕ → List ℕ → Bool → List Question
table_questions xheight p rects directions room =
    xheight_questions xheight
    ++ (5, count_fits 4096 rects && directions_fit rects directions)
    ∷ (6, all_inside 8192 8192 rects)
    ∷ settings_questions p
    ++ (14, room)
    ∷ []
