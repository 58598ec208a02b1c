-- `unlevelling::unlevel` meets its contract: the rows up to y are back.
use Rattle.layout.specs.Level.{pixel_in}
use Rattle.shear_runs.proofs.Areas.{all_shown}
use Rattle.unlevelling.proofs.unlevel.Goals as goal

pub returns : goal.returns
returns c =
    let a = c.args in
    all_shown a.shears.now.sides.pw a.shears.now.sides.ph (pixel_in a.shears.now.sides a.level.now a.shears.now.shear.now a.shears.now.shear_x.now) a.out.now c.loop-y.out c.loop-y.y c.loop-y-test.false c.requires.1 c.loop-y.invariant.1
