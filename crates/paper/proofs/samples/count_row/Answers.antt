-- `paper::samples::count_row` meets its contract: after each turn the pixels before the next are counted.
use native.Mathlib.Omega.{arith}
use Rattle.paper.proofs.Pixels.{counted_fits}
use Rattle.paper.proofs.samples.count_row.Goals as goal

-- that a count fits is not found alone: there is room for the pixels that are left
pub overflow_add-counts : goal.overflow_add-counts
overflow_add-counts c =
    omega (arith, counted_fits c.args.row.now c.loop-p.p-index c.from.result c.args.counts.now c.loop-p.counts (omega arith) (omega arith) c.requires c.loop-p.invariant)
