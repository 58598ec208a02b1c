-- One glyph box: when it is passed over, and the box that it is otherwise.
use Rattle.std.specs.Prelude.{Bool, not, ◌||◌}
use Rattle.std.specs.Float.Ieee.{lt}
use Rattle.rects.specs.Rects.{width_of, height_of}
use Rattle.rects.specs.declared.Rect.{Rect}
use Rattle.ink.specs.Ink.{Ink}
use Rattle.glyph_tests.specs.declared.limits.Limits.{Limits}
use Rattle.glyph_tests.specs.declared.found.CheckBox.{CheckBox}
use Rattle.glyph_tests.specs.Tests.{size_missed, has_frame, frame_of, aspect_missed, edge_coverage, too_full, is_ticked}

-- The tests on the frame f: size, aspect, edges, inner ink.
unfoldable pub frame_missed : Ink → Limits → Rect → Bool
frame_missed ink l f =
    size_missed (width_of f) (height_of f) l.min_side l.max_side
    || aspect_missed (width_of f) (height_of f) l.box_aspect_tol
    || lt (edge_coverage ink f l.box_tolerance_px) l.box_edge_coverage
    || too_full ink l f

-- The box with the frame f.
unfoldable pub box_in : Ink → Limits → Rect → CheckBox
box_in ink l f = record { bbox = f; ticked = is_ticked ink l f; edge_coverage = edge_coverage ink f l.box_tolerance_px }

-- The frame of a glyph box.
abbrev pub trimmed : Ink → Limits → Rect → Rect
trimmed ink l r = frame_of ink l.box_overshoot_fraction r

-- A glyph box is passed over when the first size test says so, or no row or no column exceeds the overshoot limit, or a test on its frame says so.
unfoldable pub passed_over : Ink → Limits → Rect → Bool
passed_over ink l r =
    size_missed (width_of r) (height_of r) l.min_size l.slack || not (has_frame ink l.box_overshoot_fraction r) || frame_missed ink l (trimmed ink l r)

-- The box of a glyph box that is not passed over.
abbrev pub box_of : Ink → Limits → Rect → CheckBox
box_of ink l r = box_in ink l (trimmed ink l r)
