-- What a guard's number gives: what the cores ask, where it is 0.
use mathlib.Core.Path.{◌≡◌, sym}
use mathlib.Core.Bool.{true}
use mathlib.Core.List.{List}
use Prim.Native.Nat.{◌≤◌, ◌<◌}
use native.Mathlib.Omega.{arith}
use lib.IntN.{ℤ}
use Rattle.questions.specs.Questions.{first_missed}
use Rattle.questions.proofs.FirstMissed.{all_yes}
use Rattle.layout.specs.declared.sides.Sides.{Sides}
use Rattle.rects.specs.declared.Rect.{Rect}
use Rattle.layout.specs.Steps.{Sheared}
use Rattle.layout.specs.declared.page.Levelled.{Levelled}
use Rattle.layout.specs.Sides.{sides_fit}
use Rattle.layout.specs.Call.{map_questions, one_pixel}
use Rattle.layout.proofs.Answers.{SidesAre, sides_yes, sheared_yes}
use Rattle.rects.proofs.Questions.{Inside, inside_says}

-- the order of the sides
pub page_within : (s : Sides) → sides_fit s ≡ true → (s.pw ≤ s.w) × (s.ph ≤ s.h)
page_within s h = let a = sides_yes s h in (a.page_wide, a.page_high)

module _ (sides : Sides) (shear shear_x : List ℤ) where
  pub mapped_yes : (r : Rect) → first_missed (map_questions sides shear shear_x r) ≡ 0 → SidesAre sides × (Sheared sides shear shear_x × Inside sides.w sides.h r)
  mapped_yes r h =
      let yes = all_yes (map_questions sides shear shear_x r) tt h in
      (sides_yes sides yes.0, (sheared_yes sides shear shear_x yes.0 yes.1.0 yes.1.1.0, inside_says sides.w sides.h r yes.1.1.1.0))

  -- what the cores ask
  pub rect_to_page_ready : (r : Rect) → 0 ≡ first_missed (map_questions sides shear shear_x r) → Sheared sides shear shear_x × (((1 ≤ sides.pw) × (1 ≤ sides.ph)) × (((r.x0 < sides.w) × (r.y0 < sides.h)) × ((r.x1 < sides.w) × (r.y1 < sides.h))))
  rect_to_page_ready r h =
      let yes = mapped_yes r (sym h) in
      (yes.1.0, ((yes.0.pw_some, yes.0.ph_some), ((omega (arith, yes.1.1.wide, yes.1.1.right), omega (arith, yes.1.1.high, yes.1.1.bottom)), (yes.1.1.right, yes.1.1.bottom))))

  pub to_page_ready : (p : Levelled) → 0 ≡ first_missed (map_questions sides shear shear_x (one_pixel p)) → Sheared sides shear shear_x × ((1 ≤ sides.pw) × ((p.0 < sides.w) × (p.1 < sides.h)))
  to_page_ready p h = let ready = rect_to_page_ready (one_pixel p) h in (ready.0, (ready.1.0.0, ready.1.1.0))
