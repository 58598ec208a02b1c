-- Document 02 §14, over any raster: a page that is levelled comes back, and a levelled raster does exactly when its padding is white.
use mathlib.Core.Path.{◌≡◌, sym, subst}
use mathlib.Core.List.{List}
use Prim.Native.Nat.{ℕ, ◌*◌}
use lib.IntN.{ℤ}
use lib.ListN.{length}
use Rattle.layout.specs.declared.sides.Sides.{Sides}
use Rattle.layout.specs.Steps.{Sheared}
use Rattle.layout.specs.Level.{levelled, pixel_in, WhitePadding, Levelling, unlevelled}
use Rattle.layout.proofs.Places.{raster_at, raster_is}
use Rattle.layout.proofs.Levelling.{levelled_is, levelling_unique}

module _ (sides : Sides) (shear shear_x : List ℤ) (sheared : Sheared sides shear shear_x) where
  pub page_back : (gray : List ℕ) → length gray ≡ sides.pw * sides.ph → unlevelled sides (levelled sides gray shear shear_x) shear shear_x ≡ gray
  page_back gray long =
      let level = levelled sides gray shear shear_x in
      sym (raster_is sides.pw sides.ph (pixel_in sides level shear shear_x) gray long (λ X Y p q. sym ((levelled_is sides shear shear_x sheared gray).reached X Y p q)))

  pub level_back : (level : List ℕ) → length level ≡ sides.w * sides.h → WhitePadding sides level shear shear_x → levelled sides (unlevelled sides level shear shear_x) shear shear_x ≡ level
  level_back level long white =
      let page = unlevelled sides level shear shear_x in
      let levelling : Levelling sides page shear shear_x level =
      record { long = long; reached = λ X Y p q. sym (raster_at sides.pw sides.ph (pixel_in sides level shear shear_x) X Y p q); white = white } in
      levelling_unique sides page shear shear_x (levelled sides page shear shear_x) level (levelled_is sides shear shear_x sheared page) levelling

  pub only_white : (gray level : List ℕ) → levelled sides gray shear shear_x ≡ level → WhitePadding sides level shear shear_x
  only_white gray level e = subst (λ (out : List ℕ). WhitePadding sides out shear shear_x) e (levelled_is sides shear shear_x sheared gray).white
