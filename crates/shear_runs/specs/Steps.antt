-- What the functions of `shear_runs`, and the steps of levelling and of its inverse, promise each other; none of it is needed to read the contracts of
-- the calls. Each step writes only what is right, so what is right stays right.
use Rattle.std.specs.Prelude.{ℕ, ◌+◌, ◌-◌, ◌*◌, ◌≤◌, ◌<◌, ◌≡◌, Bool, true, List, ℤ, length, get_or}
use Rattle.layout.specs.declared.sides.Sides.{Sides}
use Rattle.layout.specs.Tables.{entry}
use Rattle.layout.specs.Steps.{Table}

-- From column `from` on, all columns before column `to` have one entry.
pub record Run (table : List ℤ) (from to : ℕ) : Type 0 where
  pub more : from < to
  pub within : to ≤ length table
  pub same : (i : ℕ) → from ≤ i → i < to → entry table i ≡ entry table from

-- The columns from `from` up to `to` are levelled together; where they are a run, they have one entry.
pub record Together (table : List ℤ) (from to : ℕ) (run : Bool) : Type 0 where
  pub more : from < to
  pub within : to ≤ length table
  pub same : run ≡ true → (i : ℕ) → from ≤ i → i < to → entry table i ≡ entry table from

-- A levelled picture of at most 8,192 square, and a table of its rows that keeps the page inside.
pub record Frame (sides : Sides) (shear_x : List ℤ) : Type 0 where
  pub page_wide : sides.pw ≤ sides.w
  pub wide : sides.w ≤ 8192
  pub high : sides.h ≤ 8192
  pub rows : Table sides.h (sides.w - sides.pw) shear_x

-- In rasters of w columns, from out to out': every place of the area holds f, and every place that held f still does.
pub record Shows (w : ℕ) (f : ℕ → ℕ → ℕ) (area : ℕ → ℕ → Type 0) (out out' : List ℕ) : Type 0 where
  pub long : length out' ≡ length out
  pub kept : (x y : ℕ) → x < w → get_or out (y * w + x) 0 ≡ f x y → get_or out' (y * w + x) 0 ≡ f x y
  pub right : (x y : ℕ) → x < w → area x y → get_or out' (y * w + x) 0 ≡ f x y

-- The part of an area that lies in the rows from y0 up to y1.
abbrev pub InRows : ℕ → ℕ → (ℕ → ℕ → Type 0) → ℕ → ℕ → Type 0
InRows y0 y1 area x y = ((y0 ≤ y) × (y < y1)) × area x y

-- The columns from `from` up to `to`, where column 0 stands at column `at y` of row y.
abbrev pub Columns : (ℕ → ℕ) → ℕ → ℕ → ℕ → ℕ → Type 0
Columns at from to x y = (at y + from ≤ x) × (x < at y + to)

-- Every place.
abbrev pub All : ℕ → ℕ → Type 0
All x y = Unit
