-- The questions that `segments` puts, in document 01's order: 1 (levelled sides), 2 (x-height), 5, 6, 7 to 11, 13, 14.
use Rattle.std.specs.Prelude.{Bool, List, [], ◌∷◌, ◌++◌, ℕ, Float}
use Rattle.questions.specs.Questions.{Question}
use Rattle.rects.specs.Rects.{count_fits, all_inside}
use Rattle.layout.specs.Sides.{levelled_sides_fit}
use Rattle.params.specs.declared.settings.RulingsParams.{RulingsParams}
use Rattle.params.specs.Scan.{xheight_in_range}
use Rattle.params.specs.Settings.{settings_questions}

-- The questions in order; the last is whether the raster is of its size and every list has room.
abbrev pub ruling_questions : ℕ → ℕ → Float → List ℕ → RulingsParams → Bool → List Question
ruling_questions w h xheight pieces p room =
    (1, levelled_sides_fit w h)
    ∷ (2, xheight_in_range xheight)
    ∷ (5, count_fits 4096 pieces)
    ∷ (6, all_inside w h pieces)
    ∷ settings_questions p
    ++ (14, room)
    ∷ []
