-- What a levelled place shows, said by its page column: on the page's columns that column, beside them white.
use mathlib.Core.Path.{◌≡◌, ap, ◌∙◌}
use mathlib.Core.Logic.{◌⊎◌, ⊎_elim}
use mathlib.Core.Bool.{Bool, true, false, ◌&&◌, cond}
use mathlib.Core.List.{List}
use Prim.Native.Nat.{ℕ, ◌+◌, ◌-◌, ◌*◌, ◌≤◌, ◌<◌}
use native.Mathlib.Omega.{arith}
use lib.Dec.{leb, ltb}
use lib.IntN.{ℤ}
use lib.ListN.{get_or}
use borrow.Author.Tests.{lt-leb, le-leb, lt-ltb, le-ltb}
use Rattle.layout.specs.declared.sides.Sides.{Sides}
use Rattle.layout.specs.Tables.{entry}
use Rattle.layout.specs.Level.{column_shows, place_shows}

module _ (sides : Sides) (gray : List ℕ) where
  pub column_on : (X y s : ℕ) → s ≤ y → y - s < sides.ph → column_shows sides gray s X y ≡ get_or gray ((y - s) * sides.pw + X) 0
  unfolding column_shows
  column_on X y s g h =
      let on : leb s y && ltb (y - s) sides.ph ≡ true = simp (le-leb s y g, lt-ltb (y - s) sides.ph h) in
      ap (λ (b : Bool). cond b (get_or gray ((y - s) * sides.pw + X) 0) 255) on

  pub column_off : (X y s : ℕ) → (y < s) ⊎ ((s ≤ y) × (sides.ph ≤ y - s)) → column_shows sides gray s X y ≡ 255
  unfolding column_shows
  column_off X y s off = ap (λ (b : Bool). cond b (get_or gray ((y - s) * sides.pw + X) 0) 255) (⊎_elim above below off)
    where
      above : y < s → leb s y && ltb (y - s) sides.ph ≡ false
      above h = simp (lt-leb s y h)

      below : (s ≤ y) × (sides.ph ≤ y - s) → leb s y && ltb (y - s) sides.ph ≡ false
      below h = simp (le-leb s y h.0, le-ltb (y - s) sides.ph h.1)

module _ (sides : Sides) (gray : List ℕ) (shear shear_x : List ℤ) where
  pub place_on : (x y X : ℕ) → x ≡ entry shear_x y + X → X < sides.pw → place_shows sides gray shear shear_x x y ≡ column_shows sides gray (entry shear X) X y
  unfolding place_shows
  place_on x y X e h =
      let s = entry shear_x y in
      let back : x - s ≡ X = omega arith in
      let on : leb s x && ltb (x - s) sides.pw ≡ true = simp (le-leb s x (omega arith), lt-ltb (x - s) sides.pw (omega arith)) in
      ap (λ (b : Bool). cond b (column_shows sides gray (entry shear (x - s)) (x - s) y) 255) on ∙ ap (λ (k : ℕ). column_shows sides gray (entry shear k) k y) back

  pub place_beside : (x y : ℕ) → (x < entry shear_x y) ⊎ (entry shear_x y + sides.pw ≤ x) → place_shows sides gray shear shear_x x y ≡ 255
  unfolding place_shows
  place_beside x y off =
      let s = entry shear_x y in
      let X = x - s in
      ap (λ (b : Bool). cond b (column_shows sides gray (entry shear X) X y) 255) (⊎_elim left right off)
    where
      left : x < entry shear_x y → leb (entry shear_x y) x && ltb (x - entry shear_x y) sides.pw ≡ false
      left h = simp (lt-leb (entry shear_x y) x h)

      right : entry shear_x y + sides.pw ≤ x → leb (entry shear_x y) x && ltb (x - entry shear_x y) sides.pw ≡ false
      right h = simp (le-leb (entry shear_x y) x (omega arith), le-ltb (x - entry shear_x y) sides.pw (omega arith))
