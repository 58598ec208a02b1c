-- The questions that `level_gray` and `unlevel` put, in document 01's order: 1, 3, 4, 14. One is given the page and lent the levelled raster, the
-- other is given the levelled raster and lent the page; either way the page's length is asked by 3, and the levelled raster's by 14.
use Rattle.std.specs.Prelude.{ℕ, ◌&&◌, List, [], ◌∷◌, ℤ}
use Rattle.questions.specs.Questions.{Question}
use Rattle.layout.specs.declared.sides.Sides.{Sides}
use Rattle.layout.specs.Sides.{sides_fit, raster_fits}
use Rattle.layout.specs.Tables.{shears_long, shears_fit}

-- The questions in order; page and level are the lengths of the page raster and of the levelled raster.
abbrev pub level_questions : Sides → ℕ → List ℤ → List ℤ → ℕ → List Question
level_questions sides page shear shear_x level =
    (1, sides_fit sides)
    ∷ (3, raster_fits sides.pw sides.ph page && shears_long sides shear shear_x)
    ∷ (4, shears_fit sides shear shear_x)
    ∷ (14, raster_fits sides.w sides.h level)
    ∷ []
