-- `to_page` of a page pixel's levelled place: with tables that pass, no question is missed, and the answer is that pixel.
use mathlib.Core.Path.{◌≡◌, sym, ap, ap₂, ◌∙◌}
use mathlib.Core.Bool.{true, ◌&&◌, cond}
use mathlib.Core.List.{List, [], ◌∷◌}
use Prim.Native.Nat.{ℕ}
use native.Mathlib.Omega.{arith}
use lib.Dec.{eqb}
use lib.IntN.{ℤ}
use borrow.Author.Tests.{le-leb, lt-ltb}
use Rattle.questions.specs.Questions.{first_missed}
use Rattle.questions.proofs.FirstMissed.{none_missed}
use Rattle.lists.proofs.Every.{and_both}
use Rattle.rects.specs.Rects.{inside}
use Rattle.layout.specs.declared.sides.Sides.{Sides}
use Rattle.layout.specs.declared.page.Levelled.{Levelled}
use Rattle.layout.specs.declared.page.PagePlace.{PagePlace}
use Rattle.questions.specs.declared.Missed.{Missed}
use Rattle.questions.specs.Missed.{number_in}
use Rattle.std.specs.Prelude.{Result}
use Rattle.layout.specs.Sides.{sides_fit}
use Rattle.layout.specs.Tables.{shears_long, shears_fit, tables_pass}
use Rattle.layout.specs.ToPage.{to_page}
use Rattle.layout.specs.Call.{map_questions, one_pixel, mapped_values, PixelBack, ToPage}
use Rattle.layout.specs.Steps.{Sheared}
use Rattle.layout.proofs.Every.{and_parts}
use Rattle.layout.proofs.Answers.{sheared_yes}
use Rattle.layout.proofs.Levelling.{to_page_back, reach_within}

abbrev listed : PagePlace → List ℤ
listed q = q.0 ∷ q.1 ∷ []

module _ (sides : Sides) (shear shear_x : List ℤ) where
  -- the parts of the test
  pub tables_yes : tables_pass sides shear shear_x ≡ true → (sides_fit sides ≡ true) × ((shears_long sides shear shear_x ≡ true) × (shears_fit sides shear shear_x ≡ true))
  tables_yes pass =
      let four = and_parts (sides_fit sides && shears_long sides shear shear_x) (shears_fit sides shear shear_x) pass in
      let three = and_parts (sides_fit sides) (shears_long sides shear shear_x) four.0 in
      (three.0, (three.1, four.1))

  pub tables_sheared : tables_pass sides shear shear_x ≡ true → Sheared sides shear shear_x
  tables_sheared pass = let yes = tables_yes pass in sheared_yes sides shear shear_x yes.0 yes.1.0 yes.1.1

  -- number and values say the rest, whatever the values of a refusal are
  pub pixel_back : (p : Levelled) (number : ℕ) (values refused : List ℤ) → number ≡ first_missed (map_questions sides shear shear_x (one_pixel p)) → let q = to_page sides shear shear_x p in values ≡ cond (eqb number 0) (q.0 ∷ q.1 ∷ []) refused → PixelBack sides shear shear_x p number values
  pixel_back p number values refused n v pass X Y l m across down =
      let yes = tables_yes pass in
      let within = reach_within sides shear shear_x (tables_sheared pass) X Y l m in
      let six : inside sides.w sides.h (one_pixel p) ≡ true =
      and_both
      (and_both (and_both (le-leb p.0 p.0 (omega arith)) (le-leb p.1 p.1 (omega arith))) (lt-ltb p.0 sides.w (omega (arith, within.0))))
      (lt-ltb p.1 sides.h (omega (arith, within.1))) in
      let none : number ≡ 0 = n ∙ none_missed (map_questions sides shear shear_x (one_pixel p)) (yes.0, (yes.1.0, (yes.1.1, (six, tt)))) in
      let place = ap₂ (λ (x y : ℕ). to_page sides shear shear_x (record { 0 = x; 1 = y })) across down ∙ sym (to_page_back sides shear shear_x X Y l) in
      (none, v ∙ ap (λ (k : ℕ). cond (eqb k 0) (listed (to_page sides shear shear_x p)) refused) none ∙ ap listed place)

  pub to_page_is : (p : Levelled) (answer : Result PagePlace Missed) → number_in answer ≡ first_missed (map_questions sides shear shear_x (one_pixel p)) → let q = to_page sides shear shear_x p in mapped_values answer ≡ cond (eqb (number_in answer) 0) (q.0 ∷ q.1 ∷ []) [] → ToPage sides shear shear_x p answer
  to_page_is p answer n v = record { number = n; values = v; pixel = pixel_back p (number_in answer) (mapped_values answer) [] n v }
