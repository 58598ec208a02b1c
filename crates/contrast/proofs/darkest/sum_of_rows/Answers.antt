-- `contrast::darkest::sum_of_rows` meets its contract: after i turns `sum` is that of the first i rows.
use mathlib.Core.Path.{refl, ap}
use Prim.Native.Nat.{◌+◌, ◌*◌, ◌≤◌}
use native.Mathlib.Omega.{arith}
use lib.ListN.{length}
use Rattle.math.specs.Sum.{total}
use Rattle.paper.specs.Pixels.{darkest_of}
use Rattle.paper.proofs.Pixels.{part_line}
use Rattle.contrast.proofs.Lines.{sum_more, darkest_le}
use Rattle.contrast.proofs.darkest.sum_of_rows.Goals.{In-loop-i}
use Rattle.contrast.proofs.darkest.sum_of_rows.Goals as goal

pub loop-i-init : goal.loop-i-init
unfolding total
loop-i-init c = (omega arith, refl)

-- the next row lies in the raster
inside : (c : In-loop-i) → c.args.start + c.loop-i.i * c.raster.inside.w + c.args.columns ≤ length c.raster.inside.pixels.now
inside c = let R = rw (← c.raster.view_is) at c.requires in R.1 c.loop-i.i c.loop-i-test.true

pub loop-i-preserved : goal.loop-i-preserved
loop-i-preserved c =
    let start = c.args in
    let pixels = c.raster.inside.pixels.now in
    let w = c.raster.inside.w in
    let row = part_line pixels (start.start + c.loop-i.i * w) start.columns (inside (goal.at.loop-i-preserved c).In-loop-i) in
    let byte : c.darkest_of.result ≤ 255 = rw c.darkest_of.ensures (darkest_le _) in (
      omega (arith, c.from-sum.ensures),
      omega (arith, c.loop-i.invariant.1, c.from-sum.ensures, c.darkest_of.ensures, ap darkest_of row, sum_more pixels start.start c.loop-i.i start.columns w),
    )
