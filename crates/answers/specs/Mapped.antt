-- The answers of `to_page` and `rect_to_page` as C gets them: the number of the first missed question, and the values, all 0 on refusal.
use Rattle.std.specs.Prelude.{◌≡◌, cond, List, [], ◌∷◌, eqb, ℤ, pos}
use Rattle.questions.specs.Questions.{first_missed}
use Rattle.layout.specs.declared.sides.Sides.{Sides}
use Rattle.rects.specs.declared.Rect.{Rect}
use Rattle.layout.specs.declared.page.Levelled.{Levelled}
use Rattle.layout.specs.ToPage.{to_page, rect_to_page}
use Rattle.layout.specs.Call.{map_questions, one_pixel, PixelBack}
use Rattle.answers.specs.declared.to_page.ToPageAnswer.{ToPageAnswer}
use Rattle.answers.specs.declared.rect_to_page.RectToPageAnswer.{RectToPageAnswer}

-- `to_page`: column and row on the page where no question is missed; of a pixel's place, that pixel.
pub record PlaceMapped (sides : Sides) (shear shear_x : List ℤ) (p : Levelled) (r : ToPageAnswer) : Type 0 where
  pub number : r.number ≡ first_missed (map_questions sides shear shear_x (one_pixel p))
  pub values : let q = to_page sides shear shear_x p in r.x ∷ r.y ∷ [] ≡ cond (eqb r.number 0) (q.0 ∷ q.1 ∷ []) (pos 0 ∷ pos 0 ∷ [])
  pub pixel : PixelBack sides shear shear_x p r.number (r.x ∷ r.y ∷ [])

-- `rect_to_page`: the page rectangle where no question is missed.
pub record AreaMapped (sides : Sides) (shear shear_x : List ℤ) (a : Rect) (r : RectToPageAnswer) : Type 0 where
  pub number : r.number ≡ first_missed (map_questions sides shear shear_x a)
  pub values : let q = rect_to_page sides shear shear_x a in r.x0 ∷ r.y0 ∷ r.x1 ∷ r.y1 ∷ [] ≡ cond (eqb r.number 0) (q.x0 ∷ q.y0 ∷ q.x1 ∷ q.y1 ∷ []) (0 ∷ 0 ∷ 0 ∷ 0 ∷ [])
