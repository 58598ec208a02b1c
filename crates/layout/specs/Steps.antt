-- What the functions of `layout` ask of the tables; none of it is needed to read the contracts.
use Rattle.std.specs.Prelude.{ℕ, ◌-◌, ◌≤◌, ◌<◌, ◌≡◌, List, ℤ, pos, length, get_or}
use Rattle.layout.specs.declared.sides.Sides.{Sides}
use Rattle.layout.specs.declared.tables.Shears as declared
use Rattle.layout.specs.Tables.{entry}

-- What a `Shears` holds: sides, and the tables.
pub record Shears : Type 0 where
  pub sides : Sides
  pub shear : List ℤ
  pub shear_x : List ℤ

abbrev pub shears_of : declared.Shears → Shears
shears_of s = record { sides = s.sides; shear = s.shear.now; shear_x = s.shear_x.now }

-- No entry is below 0.
abbrev pub NotBelow : List ℤ → Type 0
NotBelow table = (i : ℕ) → i < length table → get_or table i (pos 0) ≡ pos (entry table i)

-- A table with n entries, each from 0 to limit.
pub record Table (n limit : ℕ) (table : List ℤ) : Type 0 where
  pub long : length table ≡ n
  pub whole : NotBelow table
  pub most : (i : ℕ) → i < n → entry table i ≤ limit

-- Sides and tables that pass questions 1, 3 and 4, as plain facts.
pub record Sheared (sides : Sides) (shear shear_x : List ℤ) : Type 0 where
  pub page_wide : sides.pw ≤ sides.w
  pub page_high : sides.ph ≤ sides.h
  pub wide : sides.w ≤ 8192
  pub high : sides.h ≤ 8192
  pub columns : Table sides.pw (sides.h - sides.ph) shear
  pub rows : Table sides.h (sides.w - sides.pw) shear_x
