-- `inner::find` meets its contract: the member list gives each closed set back, and the passes go through them.
use native.Mathlib.Omega.{arith}
use Rattle.grids.proofs.Filling.{set_is, sets_in, filled}
use Rattle.grids.proofs.inner.find.Goals as goal

pub read_sets-requires : goal.read_sets-requires
read_sets-requires c =
    let R = c.requires.2 in (
      c.requires.1,
      sets_in c.args.rects.now c.args.limit c.connect-count.ensures R.members R.ends,
      record { order = omega (arith, R.parents, c.connect-count.auto.parents); work = omega (arith, R.work, c.connect-count.auto.work); keys = omega (arith, R.keys, c.connect-count.auto.keys) },
      R.reading,
    )

pub choose-grids-requires : goal.choose-grids-requires
choose-grids-requires c =
    let R = c.requires.2 in
    let S = sets_in c.args.rects.now c.args.limit c.connect-count.ensures R.members R.ends in (omega (arith, S.few, c.requires.1.few), omega (arith, S.few, R.numbers))

pub returns-clause-filled : goal.returns-clause-filled
returns-clause-filled c =
    let R = c.requires.2 in
    filled c.args.rects.now c.args.limit c.args.least _ _ c.connect-count.ensures
    (set_is c.args.rects.now c.args.limit c.connect-count.ensures R.members R.ends)
    R.members R.ends R.reading c.read_sets.ensures c.choose-grids.ensures
