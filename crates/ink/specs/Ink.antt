-- Ink, a test of a place, and how much of it lies in a rectangle. Every definition but `ink_at`, `inked` and `Readable` is over the test alone.
use Rattle.std.specs.Prelude.{Bool, not, List, ℕ, zero, suc, ◌+◌, ◌*◌, eqb, length, get_or}
use Rattle.lists.specs.Lists.{below, keep}
use Rattle.rects.specs.Rects.{width_of, height_of}
use Rattle.rects.specs.declared.Rect.{Rect}

-- Is there ink in column x of row y?
abbrev pub Ink : Type 0
Ink = ℕ → ℕ → Bool

-- The ink of a mask of w columns, row by row: a byte that is not 0.
unfoldable pub ink_at : ℕ → List ℕ → Ink
ink_at w mask x y = not (eqb (get_or mask (y * w + x) 0) 0)

-- A mask: its bytes, and how many columns it has.
pub record Mask : Type 0 where
  pub bytes : List ℕ
  pub w : ℕ

-- The ink of a mask.
abbrev pub inked : Mask → Ink
inked m = ink_at m.w m.bytes

-- A rectangle of a mask.
pub record Region : Type 0 where
  pub mask : Mask
  pub rect : Rect

-- How many numbers below n pass a test.
abbrev pub many : (ℕ → Bool) → ℕ → ℕ
many q n = length (keep q (below n))

-- The ink in row j of a rectangle, counted from its top.
unfoldable pub row_ink : Ink → Rect → ℕ → ℕ
row_ink ink r j = many (λ i. ink (r.x0 + i) (r.y0 + j)) (width_of r)

-- The ink in column i of a rectangle, counted from its left side.
unfoldable pub column_ink : Ink → Rect → ℕ → ℕ
column_ink ink r i = many (λ j. ink (r.x0 + i) (r.y0 + j)) (height_of r)

-- The ink in the first n rows of a rectangle.
unfoldable pub ink_in_rows : Ink → Rect → ℕ → ℕ
ink_in_rows ink r zero = 0
ink_in_rows ink r (suc n) = ink_in_rows ink r n + row_ink ink r n

-- The ink in a rectangle.
abbrev pub ink_in : Ink → Rect → ℕ
ink_in ink r = ink_in_rows ink r (height_of r)
