-- `level_gray` and `unlevel` one after the other, with the same sides and tables: the second call is accepted where the first is, a page comes back, and
-- a levelled raster comes back exactly when its padding is white.
use mathlib.Core.Path.{◌≡◌, refl, sym, ap, ◌∙◌}
use mathlib.Core.List.{List}
use Prim.Native.Nat.{ℕ, ◌*◌}
use lib.IntN.{ℤ}
use lib.ListN.{length}
use Rattle.layout.specs.declared.sides.Sides.{Sides}
use Rattle.layout.specs.Level.{WhitePadding, pixel_in}
use Rattle.layout.proofs.Places.{raster_length}
use Rattle.level_questions.proofs.Guards.{passed_yes, passed_of}
use Rattle.level_gray.specs.Call.{LevelGray}
use Rattle.unlevel.specs.Call.{Unlevel}

module _ (sides : Sides) (shear shear_x : List ℤ) where
  -- a page that was levelled, into a page raster as long as it was
  pub there_and_back : (gray room level out page : List ℕ) (q : ℕ)
      → LevelGray sides gray shear shear_x room level 0 → Unlevel sides level shear shear_x out page q → length out ≡ length gray
      → (q ≡ 0) × (page ≡ gray)
  there_and_back gray room level out page q L U long =
      let yes = passed_yes sides shear shear_x (length gray) (length room) (sym L.number) in
      let none : q ≡ 0 = U.number ∙ passed_of sides shear shear_x (length out) (length level) yes.pass (long ∙ yes.page_long) (L.levelling refl).long in
      (none, U.page_back none gray yes.page_long (L.answers refl))

  -- a page that came from a levelled raster, into a raster as long as that was
  pub back_and_there : (level room page out again : List ℕ) (q : ℕ)
      → Unlevel sides level shear shear_x room page 0 → LevelGray sides page shear shear_x out again q → length out ≡ length level
      → (q ≡ 0) × ((WhitePadding sides level shear shear_x → again ≡ level) × (again ≡ level → WhitePadding sides level shear shear_x))
  back_and_there level room page out again q U L long =
      let yes = passed_yes sides shear shear_x (length room) (length level) (sym U.number) in
      let page_long : length page ≡ sides.pw * sides.ph = ap length (U.answers refl) ∙ raster_length sides.pw sides.ph (pixel_in sides level shear shear_x) in
      let none : q ≡ 0 = L.number ∙ passed_of sides shear shear_x (length page) (length out) yes.pass page_long (long ∙ yes.level_long) in
      (none, ((λ white. L.answers none ∙ U.level_back refl white), (λ same. U.only_white refl (sym (L.answers none) ∙ same))))
