-- Rasters as lists, row by row.
use Rattle.std.specs.Prelude.{ℕ, zero, suc, List, [], ◌∷◌, ◌++◌}

-- One row of w places: f x at column x.
unfoldable pub raster_row : ℕ → (ℕ → ℕ) → List ℕ
raster_row zero f = []
raster_row (suc w) f = raster_row w f ++ (f w ∷ [])

-- A raster of w columns and h rows, row by row: f x y at place (x, y).
unfoldable pub raster : ℕ → ℕ → (ℕ → ℕ → ℕ) → List ℕ
unfolding raster_row
raster w zero f = []
raster w (suc h) f = raster w h f ++ raster_row w (λ x. f x h)
