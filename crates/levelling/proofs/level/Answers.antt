-- `levelling::level` meets its contract: the rows up to y are levelled.
use Rattle.layout.specs.Level.{place_shows}
use Rattle.shear_runs.proofs.Areas.{all_shown}
use Rattle.levelling.proofs.level.Goals as goal

pub returns : goal.returns
returns c =
    let a = c.args in
    all_shown a.shears.now.sides.w a.shears.now.sides.h (place_shows a.shears.now.sides a.gray.now a.shears.now.shear.now a.shears.now.shear_x.now) a.out.now c.loop-y.out c.loop-y.y c.loop-y-test.false c.requires.out_long c.loop-y.invariant.1
