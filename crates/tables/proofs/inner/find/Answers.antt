-- `inner::find` meets its contract: the sets are listed, gone through and described, and the member list gives each set back.
use native.Mathlib.Omega.{arith}
use Rattle.tables.proofs.Filling.{set_is, read, sets_in, tables_low, numbers_in, filled}
use Rattle.tables.proofs.inner.find.Goals as goal

pub choose-found-requires-clause-given : goal.choose-found-requires-clause-given
choose-found-requires-clause-given c = sets_in _ _ _ c.connect-count.ensures c.requires.roomy.members c.requires.roomy.ends

pub bound-requires : goal.bound-requires
bound-requires c =
    let R = c.requires.roomy in
    let S = sets_in _ _ _ c.connect-count.ensures R.members R.ends in
    (S, numbers_in c.choose-found.ensures S.few R.numbers c.choose-found.auto.numbers, omega (arith, tables_low c.choose-found.ensures, S.few, R.bounds))

pub measure-requires-clause-given : goal.measure-requires-clause-given
measure-requires-clause-given c =
    let R = c.requires.roomy in
    let S = sets_in _ _ _ c.connect-count.ensures R.members R.ends in
    (S, numbers_in c.choose-found.ensures S.few R.numbers c.choose-found.auto.numbers)

pub measure-requires-clause-tables_in_bounds : goal.measure-requires-clause-tables_in_bounds
measure-requires-clause-tables_in_bounds c =
    let R = c.requires.roomy in
    let S = sets_in _ _ _ c.connect-count.ensures R.members R.ends in
    let low = tables_low c.choose-found.ensures in (omega (arith, low, S.few, R.rulings), omega (arith, low, S.few, R.shares))

pub returns-clause-filled : goal.returns-clause-filled
returns-clause-filled c =
    let R = c.requires.roomy in
    let C = c.connect-count.ensures in
    let r = c.args.rulings.now in
    filled r.rects r.directions r.chosen c.args.limits _ _ C (set_is _ _ _ C R.members R.ends) (read _ _ _ C R.members R.ends) c.choose-found.ensures
    (c.bound.ensures, c.measure.ensures)
