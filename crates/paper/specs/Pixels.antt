-- The pixels across a ruling and beside it. A raster is a list of rows, each w pixels wide; a darker pixel is a smaller number.
use Rattle.std.specs.Prelude.{ℕ, ◌+◌, ◌-◌, ◌*◌, min, Bool, true, false, ◌&&◌, ◌||◌, List, [], ◌∷◌, map, leb, get_or}
use Rattle.lists.specs.Lists.{below, keep, concat}
use Rattle.rects.specs.declared.Rect.{Rect}

-- A raster: its pixels, and how many columns and rows it has.
pub record Raster : Type 0 where
  pub pixels : List ℕ
  pub w : ℕ
  pub h : ℕ

-- The pixel in column x and row y.
abbrev pub pixel : List ℕ → ℕ → ℕ → ℕ → ℕ
pixel raster w x y = get_or raster (y * w + x) 0

-- The n numbers from a on.
abbrev pub run : ℕ → ℕ → List ℕ
run a n = map (λ k. a + k) (below n)

-- The numbers from a to b, both of them in.
abbrev pub span : ℕ → ℕ → List ℕ
span a b = run a (b - a + 1)

-- The darkest of some pixels; 255 is the brightest that there is.
unfoldable pub darkest_of : List ℕ → ℕ
darkest_of [] = 255
darkest_of (p ∷ ps) = min p (darkest_of ps)

-- For each place along a ruling the darkest pixel across it: for each column of a horizontal one, for each row of a vertical one.
unfoldable pub darkest : List ℕ → ℕ → Rect → Bool → List ℕ
unfolding darkest_of
darkest raster w r true = map (λ x. darkest_of (map (λ y. pixel raster w x y) (span r.y0 r.y1))) (span r.x0 r.x1)
darkest raster w r false = map (λ y. darkest_of (map (λ x. pixel raster w x y) (span r.x0 r.x1))) (span r.y0 r.y1)

-- Does k lie 3 to 6 away from the numbers from a to b, on either side?
abbrev pub away : ℕ → ℕ → ℕ → Bool
away a b k = (leb (k + 3) a && leb a (k + 6)) || (leb (b + 3) k && leb k (b + 6))

-- The places below size that lie 3 to 6 away from those from a to b: the ones that exist.
abbrev pub beside : ℕ → ℕ → ℕ → List ℕ
beside size a b = keep (away a b) (below size)

-- The pixels in the given columns and rows, row by row.
abbrev pub pixels_in : List ℕ → ℕ → List ℕ → List ℕ → List ℕ
pixels_in raster w columns rows = concat (map (λ y. map (λ x. pixel raster w x y) columns) rows)

-- The samples of the paper: of a horizontal ruling the pixels in its columns and the rows beside it, of a vertical one those in its rows and the columns beside it.
unfoldable pub samples : List ℕ → ℕ → ℕ → Rect → Bool → List ℕ
samples raster w h r true = pixels_in raster w (span r.x0 r.x1) (beside h r.y0 r.y1)
samples raster w h r false = pixels_in raster w (beside w r.x0 r.x1) (span r.y0 r.y1)
