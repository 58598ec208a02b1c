-- What `to_page` and `rect_to_page` answer: the questions that they put, in document 01's order, and the answer where none is missed.
use Rattle.std.specs.Prelude.{ℕ, ◌<◌, ◌≡◌, true, cond, List, [], ◌∷◌, eqb, ℤ, pos, Result, Ok, Err}
use Rattle.questions.specs.declared.Missed.{Missed}
use Rattle.questions.specs.Missed.{number_in}
use Rattle.questions.specs.Questions.{Question, first_missed}
use Rattle.layout.specs.declared.sides.Sides.{Sides}
use Rattle.rects.specs.declared.Rect.{Rect}
use Rattle.layout.specs.declared.page.Levelled.{Levelled}
use Rattle.layout.specs.declared.rect.PageRect.{PageRect}
use Rattle.layout.specs.declared.page.PagePlace.{PagePlace}
use Rattle.layout.specs.Sides.{sides_fit}
use Rattle.layout.specs.Tables.{shears_long, shears_fit, tables_pass}
use Rattle.layout.specs.Level.{level_row, level_column}
use Rattle.rects.specs.Rects.{inside}
use Rattle.layout.specs.ToPage.{to_page, rect_to_page}

-- `to_page` and `rect_to_page` put 1, 3, 4 and 6.
abbrev pub map_questions : Sides → List ℤ → List ℤ → Rect → List Question
map_questions sides shear shear_x r =
    (1, sides_fit sides)
    ∷ (3, shears_long sides shear shear_x)
    ∷ (4, shears_fit sides shear shear_x)
    ∷ (6, inside sides.w sides.h r)
    ∷ []

-- A single place counts as a rectangle of one pixel.
abbrev pub one_pixel : Levelled → Rect
one_pixel p = record { x0 = p.0; y0 = p.1; x1 = p.0; y1 = p.1 }

-- The values of an answer: column and row, or none.
abbrev pub mapped_values : Result PagePlace Missed → List ℤ
mapped_values (Ok p) = p.0 ∷ p.1 ∷ []
mapped_values (Err e) = []

-- The values of an answer: x0, y0, x1, y1, or none.
abbrev pub area_values : Result PageRect Missed → List ℕ
area_values (Ok r) = r.x0 ∷ r.y0 ∷ r.x1 ∷ r.y1 ∷ []
area_values (Err e) = []

-- Number and values of `to_page` at place p: where p is the levelled place of page pixel (X, Y), and sides and tables pass their questions, no question
-- is missed, and the values are that pixel.
abbrev pub PixelBack : Sides → List ℤ → List ℤ → Levelled → ℕ → List ℤ → Type 0
PixelBack sides shear shear_x p number values =
    tables_pass sides shear shear_x ≡ true
    → (X Y : ℕ) → X < sides.pw → Y < sides.ph → p.0 ≡ level_column shear shear_x X Y → p.1 ≡ level_row shear X Y
    → (number ≡ 0) × (values ≡ pos X ∷ pos Y ∷ [])

-- `to_page` answers with the number of the first missed question, and with the page place where that is 0: the pixel itself, of a pixel's place.
pub record ToPage (sides : Sides) (shear shear_x : List ℤ) (p : Levelled) (answer : Result PagePlace Missed) : Type 0 where
  pub number : number_in answer ≡ first_missed (map_questions sides shear shear_x (one_pixel p))
  pub values : let q = to_page sides shear shear_x p in mapped_values answer ≡ cond (eqb (number_in answer) 0) (q.0 ∷ q.1 ∷ []) []
  pub pixel : PixelBack sides shear shear_x p (number_in answer) (mapped_values answer)

-- `rect_to_page` answers with the number of the first missed question, and with the page rectangle where that is 0.
pub record RectToPage (sides : Sides) (shear shear_x : List ℤ) (r : Rect) (answer : Result PageRect Missed) : Type 0 where
  pub number : number_in answer ≡ first_missed (map_questions sides shear shear_x r)
  pub values : let q = rect_to_page sides shear shear_x r in area_values answer ≡ cond (eqb (number_in answer) 0) (q.x0 ∷ q.y0 ∷ q.x1 ∷ q.y1 ∷ []) []
