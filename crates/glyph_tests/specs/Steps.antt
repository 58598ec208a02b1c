-- What the tests on one glyph box say to each other; not needed to read the contracts.
use Rattle.std.specs.Prelude.{ℕ, Option, Some, None, ◌+◌, ◌-◌, min, max, cond, nat_lt, Float}
use Rattle.rects.specs.declared.Rect.{Rect}
use Rattle.ink.specs.declared.Lines.{Lines}
use Rattle.ink.specs.Ink.{Ink}
use Rattle.ink.specs.Steps.{lines_of, line_ink}
use Rattle.glyph_tests.specs.declared.limits.Limits.{Limits}
use Rattle.glyph_tests.specs.declared.found.CheckBox.{CheckBox}
use Rattle.glyph_tests.specs.Tests.{has_frame, frame_of, run_share}
use Rattle.glyph_tests.specs.Glyph.{frame_missed, box_in, passed_over, box_of}

-- The bands along the sides of a frame as rectangles inside it, which the code reads; law `edges_are` says that they have the edges' ink.
abbrev pub top_band : Rect → ℕ → Rect
top_band f tol = record { x0 = f.x0; y0 = f.y0; x1 = f.x1; y1 = min (f.y0 + tol) f.y1 }

abbrev pub bottom_band : Rect → ℕ → Rect
bottom_band f tol = record { x0 = f.x0; y0 = max (f.y1 - tol) f.y0; x1 = f.x1; y1 = f.y1 }

abbrev pub left_band : Rect → ℕ → Rect
left_band f tol = record { x0 = f.x0; y0 = f.y0; x1 = min (f.x0 + tol) f.x1; y1 = f.y1 }

abbrev pub right_band : Rect → ℕ → Rect
right_band f tol = record { x0 = max (f.x1 - tol) f.x0; y0 = f.y0; x1 = f.x1; y1 = f.y1 }

-- The longest unbroken run of lines with ink, as a share of the lines.
unfoldable pub line_share : Ink → Rect → Lines → Float
line_share ink r lines = run_share (λ k. nat_lt 0 (line_ink ink r lines k)) (lines_of r lines)

-- The frame of a glyph box, where it has one.
unfoldable pub framed_of : Ink → Float → Rect → Option Rect
framed_of ink fraction r = cond (has_frame ink fraction r) (Some (frame_of ink fraction r)) None

-- What the tests on a frame say.
unfoldable pub found_in : Ink → Limits → Rect → Option CheckBox
found_in ink l f = cond (frame_missed ink l f) None (Some (box_in ink l f))

-- What all tests on a glyph box say.
unfoldable pub found_of : Ink → Limits → Rect → Option CheckBox
found_of ink l r = cond (passed_over ink l r) None (Some (box_of ink l r))
