-- What the steps of the inverse of levelling promise each other, with `shear_runs`' steps.
use Rattle.std.specs.Prelude.{ℕ, ◌*◌, ◌≡◌, List, length}
use Rattle.layout.specs.declared.sides.Sides.{Sides}
use Rattle.layout.specs.Level.{pixel_in}
use Rattle.layout.specs.Steps.{Shears, Sheared}
use Rattle.shear_runs.specs.Steps.{Shows, InRows, Columns}

-- What every step but `place_of` is given: sides and tables that pass their questions, and a levelled raster that fits them.
pub record Archived (s : Shears) (level : List ℕ) : Type 0 where
  pub sheared : Sheared s.sides s.shear s.shear_x
  pub level_long : length level ≡ s.sides.w * s.sides.h

-- A raster that fits the page.
abbrev pub PageLong : Sides → List ℕ → Type 0
PageLong sides out = length out ≡ sides.pw * sides.ph

-- A step that brings back an area of the page's rows from y0 up to y1.
abbrev pub BackArea : Shears → List ℕ → (ℕ → ℕ → Type 0) → ℕ → ℕ → List ℕ → List ℕ → Type 0
BackArea s level area y0 y1 = Shows s.sides.pw (pixel_in s.sides level s.shear s.shear_x) (InRows y0 y1 area)

-- The page columns from `from` up to `to`.
abbrev pub PageColumns : ℕ → ℕ → ℕ → ℕ → Type 0
PageColumns = Columns (λ y. 0)
