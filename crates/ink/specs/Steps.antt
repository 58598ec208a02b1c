-- What the functions of `ink` and `ink_lines` ask and leave; none of it is needed to read the contracts.
use Rattle.std.specs.Prelude.{Bool, true, false, ℕ, suc, ◌+◌, ◌*◌, ◌≤◌, ◌<◌, length, ◌≡◌}
use Rattle.rects.specs.Rects.{width_of, height_of}
use Rattle.rects.specs.declared.Rect.{Rect}
use Rattle.ink.specs.declared.Lines.{Lines}
use Rattle.ink.specs.declared.Lines.TheVariants.{Rows, Columns}
use Rattle.ink.specs.Ink.{Ink, Mask, row_ink, column_ink}

-- A line of a rectangle is a row or a column of it: how many there are, how long one is, and its ink.
abbrev pub lines_of : Rect → Lines → ℕ
lines_of r Rows = height_of r
lines_of r Columns = width_of r

abbrev pub line_ink : Ink → Rect → Lines → ℕ → ℕ
line_ink ink r Rows k = row_ink ink r k
line_ink ink r Columns k = column_ink ink r k

-- An ordered rectangle on a mask.
pub record Readable (m : Mask) (r : Rect) : Type 0 where
  pub narrow : m.w ≤ 8192
  pub low : r.y1 < 8192
  pub wide : r.x0 ≤ r.x1
  pub high : r.y0 ≤ r.y1
  pub right : r.x1 < m.w
  pub bottom : suc r.y1 * m.w ≤ length m.bytes

-- An ordered rectangle that ends no farther right and no lower than another, and can be read where that one can.
pub record Within (s r : Rect) : Type 0 where
  pub wide : s.x0 ≤ s.x1
  pub high : s.y0 ≤ s.y1
  pub right : s.x1 ≤ r.x1
  pub bottom : s.y1 ≤ r.y1

-- What the two are.
pub record First (q : ℕ → Bool) (n k : ℕ) : Type 0 where
  pub within : k ≤ n
  pub before : (i : ℕ) → i < k → q i ≡ false
  pub passes : k < n → q k ≡ true

pub record LastEnd (q : ℕ → Bool) (n k : ℕ) : Type 0 where
  pub within : k ≤ n
  pub past : (i : ℕ) → k ≤ i → i < n → q i ≡ false
  pub passes : (i : ℕ) → suc i ≡ k → q i ≡ true

-- An unbroken run: k places in a row, all below n, that pass.
pub record Run (q : ℕ → Bool) (n k : ℕ) : Type 0 where
  pub start : ℕ
  pub within : start + k ≤ n
  pub passes : (i : ℕ) → i < k → q (start + i) ≡ true

-- The length of the longest unbroken run below n: there is one of that length, and none is longer.
pub record Longest (q : ℕ → Bool) (n k : ℕ) : Type 0 where
  pub run : Run q n k
  pub most : (l : ℕ) → Run q n l → l ≤ k
