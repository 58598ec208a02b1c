-- Levelling is what document 01 says: a place that a page pixel reaches holds that pixel, and no two pixels reach one place; every other holds 255; and `to_page` leads back.
-- Every place is reached or not, so the sentence says what each place holds, and no other raster meets it.
use mathlib.Core.Path.{◌≡◌, refl, sym, ap, ap₂, ◌∙◌}
use mathlib.Core.Logic.{◌⊎◌, inl, inr, ⊎_elim}
use mathlib.Core.Bool.{Bool, cond}
use mathlib.Core.List.{List}
use Prim.Native.Nat.{ℕ, suc, ◌+◌, ◌-◌, ◌*◌, ◌≤◌, ◌<◌}
use native.Mathlib.Omega.{arith}
use lib.IntN.{ℤ, pos, negsuc, sub_ℕ}
use lib.ListN.{get_or}
use borrow.Author.Tests.{le-ltb}
use Rattle.layout.specs.declared.sides.Sides.{Sides}
use Rattle.layout.specs.declared.page.PagePlace.{PagePlace}
use Rattle.layout.specs.Tables.{entry}
use Rattle.layout.specs.Steps.{Sheared}
use Rattle.layout.specs.Level.{level_row, level_column, place_shows, levelled, pixel_in, Unreached, WhitePadding, Levelling}
use Rattle.layout.specs.ToPage.{nearest, to_page}
use Rattle.layout.proofs.Places.{le_or_lt, raster_length, raster_at, raster_is}
use Rattle.layout.proofs.Shows.{column_on, column_off, place_on, place_beside}
use Rattle.layout.proofs.Back.{place_is}

-- no two page pixels reach the same place, whatever the tables hold
pub one_to_one : (shear shear_x : List ℤ) (X Y X' Y' : ℕ) → level_row shear X Y ≡ level_row shear X' Y' → level_column shear shear_x X Y ≡ level_column shear shear_x X' Y' → (X ≡ X') × (Y ≡ Y')
one_to_one shear shear_x X Y X' Y' rows columns =
    let across : X ≡ X' = omega (arith, ap (entry shear_x) rows) in
    let down : Y ≡ Y' = omega (arith, ap (entry shear) across) in
    (across, down)

back_by : (a b : ℕ) → sub_ℕ (a + b) b ≡ pos a
back_by a b =
    let same : a + b - b ≡ a = omega arith in
    ap (λ (t : Bool). cond t (negsuc (b - suc (a + b))) (pos (a + b - b))) (le-ltb (a + b) b (omega arith)) ∙ ap pos same

-- `to_page` of a pixel's levelled place is that pixel
pub to_page_back : (sides : Sides) (shear shear_x : List ℤ) (X Y : ℕ) → X < sides.pw → ◌≡◌ {A = PagePlace} (record { 0 = pos X; 1 = pos Y }) (to_page sides shear shear_x (record { 0 = level_column shear shear_x X Y; 1 = level_row shear X Y }))
to_page_back sides shear shear_x X Y p =
    let column : sub_ℕ (level_column shear shear_x X Y) (entry shear_x (level_row shear X Y)) ≡ pos X = back_by X (entry shear_x (level_row shear X Y)) in
    let on_page_lem : nearest sides.pw (pos X) ≡ X = omega arith in
    let row : sub_ℕ (level_row shear X Y) (entry shear (nearest sides.pw (sub_ℕ (level_column shear shear_x X Y) (entry shear_x (level_row shear X Y))))) ≡ pos Y =
    ap (λ (k : ℕ). sub_ℕ (level_row shear X Y) (entry shear k)) (ap (nearest sides.pw) column ∙ on_page_lem) ∙ back_by Y (entry shear X) in
    place_is sides shear shear_x (record { 0 = level_column shear shear_x X Y; 1 = level_row shear X Y }) (pos X) (pos Y) (sym column) (sym row)

-- ---- the places that a page pixel reaches, and the others

module _ (sides : Sides) (shear shear_x : List ℤ) (x y : ℕ) where
  -- the page pixel that reaches a place
  record Reached : Type 0 where
    X : ℕ
    Y : ℕ
    in_columns : X < sides.pw
    in_rows : Y < sides.ph
    column : level_column shear shear_x X Y ≡ x
    row : level_row shear X Y ≡ y

  -- what reaches a place comes from the one page column that its row's shift puts there
  from_column : (X Y : ℕ) → level_column shear shear_x X Y ≡ x → level_row shear X Y ≡ y → X + entry shear_x y ≡ x
  from_column X Y column row = omega (arith, ap (entry shear_x) row)

  module _ (gray : List ℕ) where
    abbrev White : Type 0
    White = Unreached sides shear shear_x x y × (place_shows sides gray shear shear_x x y ≡ 255)

    -- a place in a page column: the page row that stands there, or none
    in_column : (X : ℕ) → x ≡ entry shear_x y + X → X < sides.pw → Reached ⊎ White
    in_column X on p =
        let s = entry shear X in
        let down : (X' Y : ℕ) → level_column shear shear_x X' Y ≡ x → level_row shear X' Y ≡ y → Y + s ≡ y =
        λ X' Y column row. let same : X' ≡ X = omega (arith, from_column X' Y column row) in omega (arith, ap (entry shear) same) in
        let off : (y < s) ⊎ ((s ≤ y) × (sides.ph ≤ y - s)) → place_shows sides gray shear shear_x x y ≡ 255 =
        λ o. place_on sides gray shear shear_x x y X on p ∙ column_off sides gray X y s o in
        ⊎_elim
        (λ (m : s ≤ y).
        ⊎_elim
        (λ (g : sides.ph ≤ y - s). inr ((λ X' Y p' q column row. omega (arith, down X' Y column row)), off (inr (m, g))))
        (λ (g : y - s < sides.ph).
        let row : level_row shear X (y - s) ≡ y = omega arith in
        inl (record { X = X; Y = y - s; in_columns = p; in_rows = g; column = omega (arith, ap (entry shear_x) row); row = row }))
        (le_or_lt sides.ph (y - s)))
        (λ (m : y < s). inr ((λ X' Y p' q column row. omega (arith, down X' Y column row)), off (inl m)))
        (le_or_lt s y)

    -- every place is reached by a page pixel, or by none, and then it shows white
    reached_or_white : Reached ⊎ White
    reached_or_white =
        let s = entry shear_x y in
        ⊎_elim
        (λ (m : s ≤ x).
        ⊎_elim
        (λ (g : s + sides.pw ≤ x). inr ((λ X Y p q column row. omega (arith, from_column X Y column row)), place_beside sides gray shear shear_x x y (inr g)))
        (λ (g : x < s + sides.pw). in_column (x - s) (omega arith) (omega arith))
        (le_or_lt (s + sides.pw) x))
        (λ (m : x < s). inr ((λ X Y p q column row. omega (arith, from_column X Y column row)), place_beside sides gray shear shear_x x y (inl m)))
        (le_or_lt s x)

-- ---- the levelled raster is a levelling, and there is no other

module _ (sides : Sides) (shear shear_x : List ℤ) (sheared : Sheared sides shear shear_x) where
  -- every page pixel reaches a place of the picture
  pub reach_within : (X Y : ℕ) → X < sides.pw → Y < sides.ph → (level_column shear shear_x X Y < sides.w) × (level_row shear X Y < sides.h)
  reach_within X Y p q =
      let row : level_row shear X Y < sides.h = omega (arith, sheared.columns.most X p, sheared.page_high) in
      (omega (arith, sheared.rows.most (level_row shear X Y) row, sheared.page_wide), row)

  module _ (gray : List ℕ) where
    reached : (X Y : ℕ) → X < sides.pw → Y < sides.ph → pixel_in sides (levelled sides gray shear shear_x) shear shear_x X Y ≡ get_or gray (Y * sides.pw + X) 0
    reached X Y p q =
        let C = level_column shear shear_x X Y in
        let R = level_row shear X Y in
        let within = reach_within X Y p q in
        let back : R - entry shear X ≡ Y = omega arith in
        raster_at sides.w sides.h (place_shows sides gray shear shear_x) C R within.0 within.1
        ∙ place_on sides gray shear shear_x C R X (omega arith) p
        ∙ column_on sides gray X R (entry shear X) (omega arith) (omega arith)
        ∙ ap (λ (k : ℕ). get_or gray (k * sides.pw + X) 0) back

    white : WhitePadding sides (levelled sides gray shear shear_x) shear shear_x
    white x y p q none =
        raster_at sides.w sides.h (place_shows sides gray shear shear_x) x y p q
        ∙ ⊎_elim
        (λ (r : Reached sides shear shear_x x y). absurd (none r.X r.Y r.in_columns r.in_rows r.column r.row))
        (λ (n : White sides shear shear_x x y gray). n.1)
        (reached_or_white sides shear shear_x x y gray)

    pub levelled_is : Levelling sides gray shear shear_x (levelled sides gray shear shear_x)
    levelled_is = record { long = raster_length sides.w sides.h (place_shows sides gray shear shear_x); reached = reached; white = white }

module _ (sides : Sides) (gray : List ℕ) (shear shear_x : List ℤ) where
  -- a place that is reached holds its pixel
  holds : (out : List ℕ) → Levelling sides gray shear shear_x out → (x y : ℕ) (r : Reached sides shear shear_x x y) → get_or out (y * sides.w + x) 0 ≡ get_or gray (r.Y * sides.pw + r.X) 0
  holds out L x y r = ap₂ (λ (i j : ℕ). get_or out (j * sides.w + i) 0) (sym r.column) (sym r.row) ∙ L.reached r.X r.Y r.in_columns r.in_rows

  -- the sentence determines the raster, whatever the tables hold
  pub levelling_unique : (out out' : List ℕ) → Levelling sides gray shear shear_x out → Levelling sides gray shear shear_x out' → out ≡ out'
  levelling_unique out out' L L' =
      let f : ℕ → ℕ → ℕ = λ x y. get_or out' (y * sides.w + x) 0 in
      raster_is sides.w sides.h f out L.long same ∙ sym (raster_is sides.w sides.h f out' L'.long (λ x y p q. refl))
    where
      same : (x y : ℕ) → x < sides.w → y < sides.h → get_or out (y * sides.w + x) 0 ≡ get_or out' (y * sides.w + x) 0
      same x y p q =
          ⊎_elim
          (λ (r : Reached sides shear shear_x x y). holds out L x y r ∙ sym (holds out' L' x y r))
          (λ (n : White sides shear shear_x x y gray). L.white x y p q n.0 ∙ sym (L'.white x y p q n.0))
          (reached_or_white sides shear shear_x x y gray)
