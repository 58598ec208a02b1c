-- What `level_gray` answers: the questions that it puts, and its answer where none is missed.
use Rattle.std.specs.Prelude.{ℕ, ◌≡◌, List, ℤ, length}
use Rattle.questions.specs.Questions.{first_missed}
use Rattle.layout.specs.declared.sides.Sides.{Sides}
use Rattle.layout.specs.Level.{levelled, Levelling}
use Rattle.level_questions.specs.Questions.{level_questions}

-- What a call of `level_gray` promises: the number of the first missed question; a refused call leaves the raster; an accepted one leaves the levelled
-- raster, of which document 01's sentence holds.
pub record LevelGray (sides : Sides) (gray : List ℕ) (shear shear_x : List ℤ) (out out' : List ℕ) (q : ℕ) : Type 0 where
  pub number : q ≡ first_missed (level_questions sides (length gray) shear shear_x (length out))
  pub refused : (q ≡ 0 → ⊥) → out' ≡ out
  pub answers : q ≡ 0 → out' ≡ levelled sides gray shear shear_x
  pub levelling : q ≡ 0 → Levelling sides gray shear shear_x out'
