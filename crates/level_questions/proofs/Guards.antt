-- What the guard's number gives where it is 0, and that it is 0 where sides, tables and rasters fit.
use mathlib.Core.Path.{◌≡◌}
use mathlib.Core.Bool.{true}
use mathlib.Core.List.{List}
use Prim.Native.Nat.{ℕ, ◌*◌, ◌≤◌}
use native.Mathlib.Omega.{arith}
use lib.IntN.{ℤ}
use Rattle.questions.specs.Questions.{first_missed}
use Rattle.questions.proofs.FirstMissed.{all_yes, none_missed}
use Rattle.lists.proofs.Every.{and_both}
use Rattle.layout.specs.declared.sides.Sides.{Sides}
use Rattle.layout.specs.Sides.{sides_fit, raster_fits}
use Rattle.layout.specs.Tables.{shears_long, tables_pass}
use Rattle.layout.specs.Steps.{Sheared}
use Rattle.layout.proofs.Every.{and_parts}
use Rattle.layout.proofs.Answers.{sides_yes, raster_yes, raster_of}
use Rattle.layout.proofs.Pixels.{tables_yes, tables_sheared}
use Rattle.level_questions.specs.Questions.{level_questions}

-- what the later questions ask of the sides
pub sides_are : (s : Sides) → sides_fit s ≡ true → ((s.pw ≤ 8192) × (s.ph ≤ 8192)) × (((s.w ≤ 8192) × (s.h ≤ 8192)) × ((s.pw ≤ s.w) × (s.ph ≤ s.h)))
sides_are s h =
    let a = sides_yes s h in
    ((omega (arith, a.page_wide, a.w_most), omega (arith, a.page_high, a.h_most)), ((a.w_most, a.h_most), (a.page_wide, a.page_high)))

module _ (sides : Sides) (shear shear_x : List ℤ) (page level : ℕ) where
  -- sides, tables and both rasters, as plain facts
  pub record Passed : Type 0 where
    pub pass : tables_pass sides shear shear_x ≡ true
    pub sheared : Sheared sides shear shear_x
    pub page_long : page ≡ sides.pw * sides.ph
    pub level_long : level ≡ sides.w * sides.h

  pub passed_yes : first_missed (level_questions sides page shear shear_x level) ≡ 0 → Passed
  passed_yes h =
      let yes = all_yes (level_questions sides page shear shear_x level) tt h in
      let three = and_parts (raster_fits sides.pw sides.ph page) (shears_long sides shear shear_x) yes.1.0 in
      let pass : tables_pass sides shear shear_x ≡ true = and_both (and_both yes.0 three.1) yes.1.1.0 in
      record {
        pass = pass;
        sheared = tables_sheared sides shear shear_x pass;
        page_long = raster_yes sides.pw sides.ph page three.0;
        level_long = raster_yes sides.w sides.h level yes.1.1.1.0;
      }

  pub passed_of : tables_pass sides shear shear_x ≡ true → page ≡ sides.pw * sides.ph → level ≡ sides.w * sides.h → first_missed (level_questions sides page shear shear_x level) ≡ 0
  passed_of pass p l =
      let yes = tables_yes sides shear shear_x pass in
      none_missed (level_questions sides page shear shear_x level)
      (yes.0, (and_both (raster_of sides.pw sides.ph page p) yes.1.0, (yes.1.1, (raster_of sides.w sides.h level l, tt))))
