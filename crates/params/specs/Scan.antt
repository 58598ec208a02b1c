-- Question 2 of document 01, about the resolution and the x-height of a scan. A call that is given only the x-height asks only about that.
use Rattle.std.specs.Prelude.{ℕ, Bool, not, ◌&&◌, List, [], ◌∷◌, eqb, Float}
use Rattle.std.specs.Float.Ieee.{lt, le}
use Rattle.std.specs.Float.Ieee.Scale.{finite}
use Rattle.math.specs.Constants.{zero}
use Rattle.questions.specs.Questions.{Question}
use Rattle.params.specs.Constants.{largest_xheight}

-- dpi not 0.
abbrev pub dpi_given : ℕ → Bool
dpi_given dpi = not (eqb dpi 0)

-- x-height finite, above 0, at most 4,096.
abbrev pub xheight_in_range : Float → Bool
xheight_in_range x = finite x && lt zero x && le x largest_xheight

-- Question 2, where both are given.
abbrev pub scan_questions : ℕ → Float → List Question
scan_questions dpi xheight = (2, dpi_given dpi && xheight_in_range xheight) ∷ []

-- Question 2, where only the x-height is given.
abbrev pub xheight_questions : Float → List Question
xheight_questions xheight = (2, xheight_in_range xheight) ∷ []
