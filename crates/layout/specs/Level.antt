-- Document 01, "Levelling": page pixel (X, Y) goes to row R = Y + shear[X], column X + shear_x[R]. Document 02 §14: the way back to the page.
use Rattle.std.specs.Prelude.{ℕ, ◌+◌, ◌-◌, ◌*◌, ◌<◌, ◌≡◌, ◌&&◌, cond, List, leb, ltb, ℤ, length, get_or}
use Rattle.layout.specs.declared.sides.Sides.{Sides}
use Rattle.layout.specs.Raster.{raster}
use Rattle.layout.specs.Tables.{entry}

-- The levelled row of page pixel (X, Y).
abbrev pub level_row : List ℤ → ℕ → ℕ → ℕ
level_row shear X Y = Y + entry shear X

-- The levelled column of page pixel (X, Y).
abbrev pub level_column : List ℤ → List ℤ → ℕ → ℕ → ℕ
level_column shear shear_x X Y = X + entry shear_x (level_row shear X Y)

-- What page column X, moved down by s, shows in row y: its pixel there, and 255 above and below the page.
unfoldable pub column_shows : Sides → List ℕ → ℕ → ℕ → ℕ → ℕ
column_shows sides gray s X y = cond (leb s y && ltb (y - s) sides.ph) (get_or gray ((y - s) * sides.pw + X) 0) 255

-- The same of page column X, moved down by its own shear.
abbrev pub page_shows : Sides → List ℕ → List ℤ → ℕ → ℕ → ℕ
page_shows sides gray shear X y = column_shows sides gray (entry shear X) X y

-- What levelled place (x, y) shows: the page column that its row's shift puts there, and 255 beside the page.
unfoldable pub place_shows : Sides → List ℕ → List ℤ → List ℤ → ℕ → ℕ → ℕ
unfolding column_shows
place_shows sides gray shear shear_x x y =
    let X = x - entry shear_x y in
    cond (leb (entry shear_x y) x && ltb X sides.pw) (page_shows sides gray shear X y) 255

-- The levelled raster, row by row. `Levelling` below is document 01's sentence; it holds of this raster (`levelled_is`) and of no other
-- (`levelling_unique`).
abbrev pub levelled : Sides → List ℕ → List ℤ → List ℤ → List ℕ
levelled sides gray shear shear_x = raster sides.w sides.h (place_shows sides gray shear shear_x)

-- What a raster of the levelled sides holds at the place of page pixel (X, Y).
abbrev pub pixel_in : Sides → List ℕ → List ℤ → List ℤ → ℕ → ℕ → ℕ
pixel_in sides level shear shear_x X Y = get_or level (level_row shear X Y * sides.w + level_column shear shear_x X Y) 0

-- No page pixel reaches levelled place (x, y).
abbrev pub Unreached : Sides → List ℤ → List ℤ → ℕ → ℕ → Type 0
Unreached sides shear shear_x x y = (X Y : ℕ) → X < sides.pw → Y < sides.ph → level_column shear shear_x X Y ≡ x → level_row shear X Y ≡ y → ⊥

-- Every place that no page pixel reaches is 255.
abbrev pub WhitePadding : Sides → List ℕ → List ℤ → List ℤ → Type 0
WhitePadding sides level shear shear_x =
    (x y : ℕ) → x < sides.w → y < sides.h → Unreached sides shear shear_x x y → get_or level (y * sides.w + x) 0 ≡ 255

-- All 255, then each page pixel goes to its place: a place that a page pixel reaches holds that pixel, and every other holds 255.
pub record Levelling (sides : Sides) (gray : List ℕ) (shear shear_x : List ℤ) (out : List ℕ) : Type 0 where
  pub long : length out ≡ sides.w * sides.h
  pub reached : (X Y : ℕ) → X < sides.pw → Y < sides.ph → pixel_in sides out shear shear_x X Y ≡ get_or gray (Y * sides.pw + X) 0
  pub white : WhitePadding sides out shear shear_x

-- The inverse of levelling: the page, row by row, each pixel from its levelled place.
abbrev pub unlevelled : Sides → List ℕ → List ℤ → List ℤ → List ℕ
unlevelled sides level shear shear_x = raster sides.pw sides.ph (pixel_in sides level shear shear_x)
