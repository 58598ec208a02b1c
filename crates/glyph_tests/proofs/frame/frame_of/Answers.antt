-- `frame::frame_of` meets its contract: the first line over the limit from each end.
use Rattle.std.proofs.Common.{◌<◌, ◌≤◌, ap, arith}
use Rattle.rects.specs.Rects.{width_of, height_of}
use Rattle.ink.specs.Ink.{Region, inked}
use Rattle.glyph_tests.specs.Tests.{top_of, left_of}
use Rattle.glyph_tests.proofs.Frames.{top_is, bottom_is, left_is, right_is, rows_ordered, columns_ordered, no_row, no_column, framed}
use Rattle.glyph_tests.proofs.frame.frame_of.Goals.{After-last_line_end-right}
use Rattle.glyph_tests.proofs.frame.frame_of.Goals as goal

pub returns-then-height-top : goal.returns-then-height-top
returns-then-height-top c =
    let a = c.args in let ink = inked a.r.now.mask in let fr = a.fraction in
    no_row ink fr a.r.now.rect (top_is ink fr a.r.now.rect c.from.ensures c.width-width.ensures.0 c.first_line-top.ensures) c.height-height.ensures.0 c.if-height-top.true

pub returns-then-width-left : goal.returns-then-width-left
returns-then-width-left c =
    let a = c.args in let ink = inked a.r.now.mask in let fr = a.fraction in
    no_column ink fr a.r.now.rect (top_is ink fr a.r.now.rect c.from.ensures c.width-width.ensures.0 c.first_line-top.ensures) c.height-height.ensures.0 c.if-height-top.false (left_is ink fr a.r.now.rect c.from-2.ensures c.height-height.ensures.0 c.first_line-left.ensures) c.width-width.ensures.0 c.if-width-left.true

-- the last column over the limit, and the last row, stand where they can be computed
columns : (c : After-last_line_end-right) → (c.first_line-left.result < c.last_line_end-right.result) × (c.last_line_end-right.result ≤ width_of c.args.r.now.rect)
columns c =
    let a = c.args in let ink = inked a.r.now.mask in let fr = a.fraction in
    let left = left_is ink fr a.r.now.rect c.from-2.ensures c.height-height.ensures.0 c.first_line-left.ensures in
    let right = right_is ink fr a.r.now.rect c.from-2.ensures c.height-height.ensures.0 c.last_line_end-right.ensures in
    let l : left_of ink fr a.r.now.rect < width_of a.r.now.rect = omega (arith, left, c.width-width.ensures.0, c.if-width-left.false) in
    let o = columns_ordered ink fr a.r.now.rect l in
    (omega (arith, left, right, o), omega (arith, right, o))

rows : (c : After-last_line_end-right) → (c.first_line-top.result < c.last_line_end-bottom.result) × (c.last_line_end-bottom.result ≤ height_of c.args.r.now.rect)
rows c =
    let a = c.args in let ink = inked a.r.now.mask in let fr = a.fraction in
    let top = top_is ink fr a.r.now.rect c.from.ensures c.width-width.ensures.0 c.first_line-top.ensures in
    let bottom = bottom_is ink fr a.r.now.rect c.from.ensures c.width-width.ensures.0 c.last_line_end-bottom.ensures in
    let l : top_of ink fr a.r.now.rect < height_of a.r.now.rect = omega (arith, top, c.height-height.ensures.0, c.if-height-top.false) in
    let o = rows_ordered ink fr a.r.now.rect l in
    (omega (arith, top, bottom, o), omega (arith, bottom, o))

pub overflow_sub-result : goal.overflow_sub-result
overflow_sub-result c = omega (arith, columns (goal.at.overflow_sub-result c).After-last_line_end-right)

pub overflow_add-result-3 : goal.overflow_add-result-3
overflow_add-result-3 c =
    omega (arith, columns (goal.at.overflow_add-result-3 c).After-last_line_end-right, c.width-width.ensures.1.right, c.width-width.ensures.1.narrow, c.width-width.ensures.1.wide, ap (λ (s : Region). s.rect.x0) c.r.view_is)

pub overflow_sub-result-2 : goal.overflow_sub-result-2
overflow_sub-result-2 c = omega (arith, rows (goal.at.overflow_sub-result-2 c).After-last_line_end-right)

pub overflow_add-result-4 : goal.overflow_add-result-4
overflow_add-result-4 c =
    omega (arith, rows (goal.at.overflow_add-result-4 c).After-last_line_end-right, c.width-width.ensures.1.low, c.width-width.ensures.1.high, ap (λ (s : Region). s.rect.y0) c.r.view_is)

pub returns : goal.returns
returns c =
    let a = c.args in let ink = inked a.r.now.mask in let fr = a.fraction in
    rw (← c.r.view_is)
    (rw (← c.r.view_is) at (
    framed ink fr a.r.now.rect (top_is ink fr a.r.now.rect c.from.ensures c.width-width.ensures.0 c.first_line-top.ensures) c.height-height.ensures.0 c.if-height-top.false (left_is ink fr a.r.now.rect c.from-2.ensures c.height-height.ensures.0 c.first_line-left.ensures) c.width-width.ensures.0 c.if-width-left.false
    (bottom_is ink fr a.r.now.rect c.from.ensures c.width-width.ensures.0 c.last_line_end-bottom.ensures) (right_is ink fr a.r.now.rect c.from-2.ensures c.height-height.ensures.0 c.last_line_end-right.ensures)))
