-- The steps of `boxes` for one glyph box, in the Rust's order. A test that ends in Missed passes the glyph box over where it holds, by IEEE comparison.
use Rattle.std.specs.Prelude.{ℕ, ◌+◌, ◌-◌, ◌*◌, ◌/◌, min, max, Bool, ◌&&◌, ◌||◌, nat_lt, Float}
use Rattle.std.specs.Float.{binary64}
use Rattle.std.specs.Float.Ieee.{lt, le, sub, mul, div}
use Rattle.lists.specs.Lists.{below, any}
use Rattle.math.specs.Select.{absolute, minimum_number, maximum_number}
use Rattle.math.specs.Sum.{whole}
use Rattle.rects.specs.Rects.{width_of, height_of}
use Rattle.rects.specs.declared.Rect.{Rect}
use Rattle.ink.specs.Ink.{Ink, row_ink, column_ink, ink_in}
use Rattle.ink.specs.Places.{over, first_place, last_end, longest_run}
use Rattle.glyph_tests.specs.declared.limits.Limits.{Limits}

-- A side is smaller than the least, or larger than the most.
unfoldable pub size_missed : ℕ → ℕ → Float → Float → Bool
size_missed width height least most = lt (whole width) least || lt (whole height) least || lt most (whole width) || lt most (whole height)

-- ---- the frame: the glyph box less the outer rows and columns that are almost empty

-- Row j of the glyph box has more ink than the fraction of its width; column i than the fraction of its height.
abbrev pub row_over : Ink → Float → Rect → ℕ → Bool
row_over ink fraction r j = over (mul binary64 fraction (whole (width_of r))) (row_ink ink r j)

abbrev pub column_over : Ink → Float → Rect → ℕ → Bool
column_over ink fraction r i = over (mul binary64 fraction (whole (height_of r))) (column_ink ink r i)

-- The first row that is over the limit, and one more than the last; the same for columns.
abbrev pub top_of : Ink → Float → Rect → ℕ
top_of ink fraction r = first_place (row_over ink fraction r) (height_of r)

abbrev pub bottom_of : Ink → Float → Rect → ℕ
bottom_of ink fraction r = last_end (row_over ink fraction r) (height_of r)

abbrev pub left_of : Ink → Float → Rect → ℕ
left_of ink fraction r = first_place (column_over ink fraction r) (width_of r)

abbrev pub right_of : Ink → Float → Rect → ℕ
right_of ink fraction r = last_end (column_over ink fraction r) (width_of r)

-- Some row and some column are over their limits.
unfoldable pub has_frame : Ink → Float → Rect → Bool
has_frame ink fraction r = nat_lt (top_of ink fraction r) (height_of r) && nat_lt (left_of ink fraction r) (width_of r)

-- From the first row and column over the limit to the last.
unfoldable pub frame_of : Ink → Float → Rect → Rect
frame_of ink fraction r =
    record {
      x0 = r.x0 + left_of ink fraction r;
      y0 = r.y0 + top_of ink fraction r;
      x1 = r.x0 + (right_of ink fraction r - 1);
      y1 = r.y0 + (bottom_of ink fraction r - 1);
    }

-- The sides differ by more than the tolerance times the larger.
unfoldable pub aspect_missed : ℕ → ℕ → Float → Bool
aspect_missed width height tolerance =
    lt (mul binary64 tolerance (maximum_number (whole width) (whole height))) (absolute (sub binary64 (whole width) (whole height)))

-- ---- the four edges: along each side, a place has ink in the band of tol + 1 rows or columns from the frame's line inward, clamped into the frame

abbrev pub top_edge : Ink → Rect → ℕ → ℕ → Bool
top_edge ink f tol i = any (λ d. ink (f.x0 + i) (min (f.y0 + d) f.y1)) (below (tol + 1))

abbrev pub bottom_edge : Ink → Rect → ℕ → ℕ → Bool
bottom_edge ink f tol i = any (λ d. ink (f.x0 + i) (max (f.y1 - d) f.y0)) (below (tol + 1))

abbrev pub left_edge : Ink → Rect → ℕ → ℕ → Bool
left_edge ink f tol j = any (λ d. ink (min (f.x0 + d) f.x1) (f.y0 + j)) (below (tol + 1))

abbrev pub right_edge : Ink → Rect → ℕ → ℕ → Bool
right_edge ink f tol j = any (λ d. ink (max (f.x1 - d) f.x0) (f.y0 + j)) (below (tol + 1))

-- The longest unbroken run of such places as a share of the side.
abbrev pub run_share : (ℕ → Bool) → ℕ → Float
run_share q n = div binary64 (whole (longest_run q n)) (whole n)

-- The least of the four shares.
unfoldable pub edge_coverage : Ink → Rect → ℕ → Float
edge_coverage ink f tol =
    minimum_number
    (minimum_number
    (minimum_number (run_share (top_edge ink f tol) (width_of f)) (run_share (bottom_edge ink f tol) (width_of f)))
    (run_share (left_edge ink f tol) (height_of f)))
    (run_share (right_edge ink f tol) (height_of f))

-- ---- the inner half

-- A quarter of the side, rounded down, is left out at each end.
abbrev pub inner_half : Rect → Rect
inner_half f =
    record {
      x0 = f.x0 + width_of f / 4;
      y0 = f.y0 + height_of f / 4;
      x1 = f.x1 - width_of f / 4;
      y1 = f.y1 - height_of f / 4;
    }

-- The inked share of the inner half.
unfoldable pub inner_ink : Ink → Rect → Float
inner_ink ink f = div binary64 (whole (ink_in ink (inner_half f))) (whole (max (width_of (inner_half f) * height_of (inner_half f)) 1))

-- The inner half is so full that the box is dropped.
abbrev pub too_full : Ink → Limits → Rect → Bool
too_full ink l f = lt l.box_max_inner_ink (inner_ink ink f)

-- The inner half is so full that the box is ticked; otherwise it is empty.
abbrev pub is_ticked : Ink → Limits → Rect → Bool
is_ticked ink l f = le l.box_checked_ink (inner_ink ink f)
