-- What the steps of levelling promise each other, with `shear_runs`' steps.
use Rattle.std.specs.Prelude.{ℕ, ◌≤◌, ◌<◌, ◌+◌, ◌*◌, ◌≡◌, ◌⊎◌, List, length, get_or}
use Rattle.layout.specs.Tables.{entry}
use Rattle.layout.specs.Level.{place_shows}
use Rattle.layout.specs.Steps.{Shears, NotBelow, Sheared}
use Rattle.shear_runs.specs.Steps.{Shows, InRows}

-- A part of row y that begins at column `from` shows f.
pub record Painted (f : ℕ → ℕ → ℕ) (from y : ℕ) (out out' : List ℕ) : Type 0 where
  pub long : length out' ≡ length out
  pub shows : (k : ℕ) → k < length out → get_or out' k 0 ≡ f (from + k) y

-- A page of at most 8,192 square, and a table of its columns.
pub record Sheets (s : Shears) (gray : List ℕ) : Type 0 where
  pub wide : s.sides.pw ≤ 8192
  pub high : s.sides.ph ≤ 8192
  pub grey_long : length gray ≡ s.sides.pw * s.sides.ph
  pub columns : length s.shear ≡ s.sides.pw
  pub whole : NotBelow s.shear

-- What the steps but those of the margins are given: sides and tables that pass their questions, a grey raster and a levelled raster that fit them.
pub record Ready (s : Shears) (gray out : List ℕ) : Type 0 where
  pub sheared : Sheared s.sides s.shear s.shear_x
  pub grey_long : length gray ≡ s.sides.pw * s.sides.ph
  pub out_long : length out ≡ s.sides.w * s.sides.h

-- White paper in the area: right for every f that is 255 there.
pub record Whitened (w : ℕ) (area : ℕ → ℕ → Type 0) (out out' : List ℕ) : Type 0 where
  pub holds : (f : ℕ → ℕ → ℕ) → ((x y : ℕ) → x < w → area x y → f x y ≡ 255) → Shows w f area out out'

-- A step that levels an area of the rows from y0 up to y1.
abbrev pub LevelledArea : Shears → List ℕ → (ℕ → ℕ → Type 0) → ℕ → ℕ → List ℕ → List ℕ → Type 0
LevelledArea s gray area y0 y1 = Shows s.sides.w (place_shows s.sides gray s.shear s.shear_x) (InRows y0 y1 area)

-- Outside the columns from `from` up to `to`.
abbrev pub Outside : ℕ → ℕ → ℕ → ℕ → Type 0
Outside from to x y = (x < from) ⊎ (to ≤ x)

-- Left and right of the page.
abbrev pub Margins : Shears → ℕ → ℕ → Type 0
Margins s x y = Outside (entry s.shear_x y) (entry s.shear_x y + s.sides.pw) x y
