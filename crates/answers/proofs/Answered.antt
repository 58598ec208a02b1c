-- A result as a struct of number and values: an answer has number 0, and a refusal can't have it.
use mathlib.Core.Path.{◌≡◌, refl}
use mathlib.Core.Bool.{Bool, true, false, cond}
use mathlib.Core.List.{List, [], ◌∷◌}
use Prim.Native.Nat.{ℕ, ◌^◌, ◌<◌}
use native.Mathlib.Omega.{arith}
use lib.Dec.{eqb}
use lib.IntN.{ℤ, pos}
use lib.Signed.{mag}
use Rattle.questions.specs.declared.Missed.{Missed}
use Rattle.questions.specs.Missed.{number_of}
use Rattle.questions.specs.Questions.{first_missed}
use Rattle.layout.specs.declared.sides.Sides.{Sides}
use Rattle.rects.specs.declared.Rect.{Rect}
use Rattle.layout.specs.declared.rect.PageRect.{PageRect}
use Rattle.layout.specs.declared.page.Levelled.{Levelled}
use Rattle.layout.specs.declared.page.PagePlace.{PagePlace}
use Rattle.std.specs.Prelude.{Ok, Err}
use Rattle.layout.specs.ToPage.{to_page, rect_to_page}
use Rattle.layout.specs.Call.{map_questions, one_pixel, ToPage, RectToPage}
use Rattle.layout.proofs.Signed.{passed, passed_is}
use Rattle.layout.proofs.Pixels.{pixel_back}
use Rattle.answers.specs.declared.to_page.ToPageAnswer.{ToPageAnswer}
use Rattle.answers.specs.Mapped.{PlaceMapped, AreaMapped}

-- no values: the number is not 0, and chooses the second of any two
no_values : {A B : Type 0} (t : Bool) (a : A) (rest : List A) (u v : B) → [] ≡ cond t (a ∷ rest) [] → v ≡ cond t u v
no_values true a rest u v h = absurd (let z : ◌≡◌ {A = ℕ} 0 1 = cc in omega arith)
no_values false a rest u v h = refl

module _ (sides : Sides) (shear shear_x : List ℤ) where
  place_mapped : (p : Levelled) (r : ToPageAnswer) → r.number ≡ first_missed (map_questions sides shear shear_x (one_pixel p)) → let q = to_page sides shear shear_x p in r.x ∷ r.y ∷ [] ≡ cond (eqb r.number 0) (q.0 ∷ q.1 ∷ []) (pos 0 ∷ pos 0 ∷ []) → PlaceMapped sides shear shear_x p r
  place_mapped p r n v = record { number = n; values = v; pixel = pixel_back sides shear shear_x p r.number (r.x ∷ r.y ∷ []) (pos 0 ∷ pos 0 ∷ []) n v }

  pub place_answered : (p : Levelled) (q : PagePlace) → mag q.0 < 2 ^ 63 → mag q.1 < 2 ^ 63 → ToPage sides shear shear_x p (Ok q) → PlaceMapped sides shear shear_x p (record { number = 0; x = passed q.0; y = passed q.1 })
  place_answered p q f g t = place_mapped p (record { number = 0; x = passed q.0; y = passed q.1 }) t.number (rw (passed_is q.0 f, passed_is q.1 g) t.values)

  pub place_refused : (p : Levelled) (e : Missed) → ToPage sides shear shear_x p (Err e) → PlaceMapped sides shear shear_x p (record { number = number_of e; x = pos 0; y = pos 0 })
  place_refused p e t =
      let q = to_page sides shear shear_x p in
      place_mapped p (record { number = number_of e; x = pos 0; y = pos 0 }) t.number (no_values (eqb (number_of e) 0) q.0 (q.1 ∷ []) (q.0 ∷ q.1 ∷ []) (pos 0 ∷ pos 0 ∷ []) t.values)

  pub area_answered : (r : Rect) (q : PageRect) → RectToPage sides shear shear_x r (Ok q) → AreaMapped sides shear shear_x r (record { number = 0; x0 = q.x0; y0 = q.y0; x1 = q.x1; y1 = q.y1 })
  area_answered r q t = record { number = t.number; values = t.values }

  pub area_refused : (r : Rect) (e : Missed) → RectToPage sides shear shear_x r (Err e) → AreaMapped sides shear shear_x r (record { number = number_of e; x0 = 0; y0 = 0; x1 = 0; y1 = 0 })
  area_refused r e t =
      let q = rect_to_page sides shear shear_x r in
      record { number = t.number; values = no_values (eqb (number_of e) 0) q.x0 (q.y0 ∷ q.x1 ∷ q.y1 ∷ []) (q.x0 ∷ q.y0 ∷ q.x1 ∷ q.y1 ∷ []) (0 ∷ 0 ∷ 0 ∷ 0 ∷ []) t.values }
