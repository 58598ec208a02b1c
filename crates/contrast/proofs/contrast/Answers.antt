-- `contrast::contrast` meets its contract: level, sum and count are whole numbers, and `contrasted` is the law of their floats.
use mathlib.Core.Path.{sym}
use native.Mathlib.Omega.{arith}
use lib.Dec.{lit≤}
use lib.ListN.{get_or-replicate}
use Rattle.paper.specs.Pixels.{samples}
use Rattle.contrast.proofs.Mean.{contrasted}
use Rattle.contrast.proofs.contrast.Goals as goal

pub sample-n-requires : goal.sample-n-requires
sample-n-requires c = (c.requires, record { all = lit≤ tt; each = λ v l. get_or-replicate 256 v 0 0 l })

pub returns : goal.returns
returns c =
    let args = c.args in
    rw (c.from-level.ensures, c.from-sum.ensures, c.from-along.ensures)
    (contrasted args.raster.now args.r args.horizontal c.level.result c.darkest_sum.result c.along.result c.requires (omega arith)
    (c.level.ensures (samples args.raster.now.pixels args.raster.now.w args.raster.now.h args.r args.horizontal) (sym c.sample-n.ensures.number) c.sample-n.ensures.tallied) c.darkest_sum.ensures c.along.ensures)
