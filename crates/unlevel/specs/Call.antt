-- What `unlevel` answers: the questions that it puts, and its answer where none is missed. Document 02 §14.
use Rattle.std.specs.Prelude.{ℕ, ◌*◌, ◌≡◌, List, ℤ, length}
use Rattle.questions.specs.Questions.{first_missed}
use Rattle.layout.specs.declared.sides.Sides.{Sides}
use Rattle.layout.specs.Level.{levelled, WhitePadding, unlevelled}
use Rattle.level_questions.specs.Questions.{level_questions}

-- What a call of `unlevel` promises: the number of the first missed question; a refused call leaves the raster; an accepted one leaves the page, each
-- pixel from its levelled place. A page that was levelled comes back; a levelled raster comes back exactly when its padding is white.
pub record Unlevel (sides : Sides) (level : List ℕ) (shear shear_x : List ℤ) (out out' : List ℕ) (q : ℕ) : Type 0 where
  pub number : q ≡ first_missed (level_questions sides (length out) shear shear_x (length level))
  pub refused : (q ≡ 0 → ⊥) → out' ≡ out
  pub answers : q ≡ 0 → out' ≡ unlevelled sides level shear shear_x
  pub page_back : q ≡ 0 → (gray : List ℕ) → length gray ≡ sides.pw * sides.ph → level ≡ levelled sides gray shear shear_x → out' ≡ gray
  pub level_back : q ≡ 0 → WhitePadding sides level shear shear_x → levelled sides out' shear shear_x ≡ level
  pub only_white : q ≡ 0 → levelled sides out' shear shear_x ≡ level → WhitePadding sides level shear shear_x
