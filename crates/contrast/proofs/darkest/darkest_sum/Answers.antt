-- `contrast::darkest::darkest_sum` meets its contract: a ruling's pixels across it are lines of the raster.
use mathlib.Core.Path.{◌∙◌}
use Prim.Native.Nat.{◌+◌, ◌*◌}
use native.Mathlib.Omega.{arith}
use Rattle.rects.specs.declared.Rect.{Rect}
use Rattle.rects.specs.Rects.{width_of, height_of}
use Rattle.paper.specs.Pixels.{Raster}
use Rattle.paper.specs.Steps.{OnPicture}
use Rattle.contrast.specs.Steps.{RowsInside}
use Rattle.contrast.proofs.Lines.{rows_inside, horizontal_sum, vertical_sum}
use Rattle.contrast.proofs.darkest.darkest_sum.Goals as goal

module _ {raster : Raster} {r : Rect} (on : OnPicture raster r) where
  rows : RowsInside raster.pixels (r.y0 * raster.w + r.x0) (width_of r) (height_of r) raster.w
  rows = rows_inside raster.pixels raster.w raster.h r.x0 r.y0 (width_of r) (height_of r) on.full (omega (arith, on.inside.wide, on.inside.right)) (omega (arith, on.inside.high, on.inside.bottom))

pub sum_of_columns-requires : goal.sum_of_columns-requires
sum_of_columns-requires c =
    let on = rw (← c.raster.view_is) at c.requires in
    rw (← c.raster.view_is, c.width-columns.ensures, c.height-rows.ensures) (omega (arith, on.narrow, on.inside.wide, on.inside.right), omega arith, rows on)

pub returns-then-horizontal : goal.returns-then-horizontal
returns-then-horizontal c =
    let S = rw (← c.raster.view_is) at c.sum_of_columns.ensures in
    rw (← c.raster.view_is) (S ∙ horizontal_sum c.raster.inside.pixels.now c.raster.inside.w c.args.r c.args.horizontal c.width-columns.result c.height-rows.result c.width-columns.ensures c.height-rows.ensures c.if-horizontal.true)

pub sum_of_rows-requires : goal.sum_of_rows-requires
sum_of_rows-requires c =
    let on = rw (← c.raster.view_is) at c.requires in
    rw (← c.raster.view_is, c.width-columns.ensures, c.height-rows.ensures) (omega (arith, on.low, on.inside.high, on.inside.bottom), rows on)

pub returns : goal.returns
returns c =
    let S = rw (← c.raster.view_is) at c.sum_of_rows.ensures in
    rw (← c.raster.view_is) (S ∙ vertical_sum c.raster.inside.pixels.now c.raster.inside.w c.args.r c.args.horizontal c.width-columns.result c.height-rows.result c.width-columns.ensures c.height-rows.ensures c.if-horizontal.false)
