-- What the functions of `contrast` ask and leave; none of it is needed to read the contracts.
use Rattle.std.specs.Prelude.{◌≡◌, ℕ, ◌*◌, ◌≤◌, ◌+◌, ◌<◌, Bool, cond, List, map, length, get_or, Float}
use Rattle.rects.specs.declared.Rect.{Rect}
use Rattle.paper.specs.Pixels.{Raster, darkest_of}
use Rattle.contrast.specs.Contrast.{contrast_of, NearContrast}
use Rattle.lists.specs.Lists.{below}
use Rattle.rects.specs.Rects.{width_of, height_of}
use Rattle.paper.specs.Steps.{line}

-- What is promised of a ruling's contrast x.
pub record Contrasted (raster : Raster) (r : Rect) (horizontal : Bool) (x : Float) : Type 0 where
  pub value : x ≡ contrast_of raster.pixels raster.w raster.h r horizontal
  pub near : NearContrast raster.pixels raster.w raster.h r horizontal x

-- For each of n columns from start on, the darkest pixel of some rows of a raster that is w wide.
abbrev pub columns_darkest : List ℕ → ℕ → ℕ → ℕ → ℕ → List ℕ
columns_darkest raster start n rows w = map (λ i. darkest_of (line raster (start + i) rows w)) (below n)

-- For each of n rows of a raster that is w wide, the darkest of some columns from start on.
abbrev pub rows_darkest : List ℕ → ℕ → ℕ → ℕ → ℕ → List ℕ
rows_darkest raster start n columns w = map (λ i. darkest_of (line raster (start + i * w) columns 1)) (below n)

-- The first n entries are the darkest pixels of n columns in the first rows.
abbrev pub Darkened : List ℕ → ℕ → ℕ → ℕ → ℕ → List ℕ → Type 0
Darkened raster start n rows w least = (i : ℕ) → i < n → get_or least i 0 ≡ darkest_of (line raster (start + i) rows w)

-- Rows of n pixels from start on lie in the raster.
abbrev pub RowsInside : List ℕ → ℕ → ℕ → ℕ → ℕ → Type 0
RowsInside raster start n rows w = (k : ℕ) → k < rows → start + k * w + n ≤ length raster

-- How many places there are along a ruling.
abbrev pub places_along : Rect → Bool → ℕ
places_along r horizontal = cond horizontal (width_of r) (height_of r)
