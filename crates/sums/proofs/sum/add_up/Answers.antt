-- `sums::sum::add_up` meets its contract. The invariant: what is left of the entries, each by its value, added to s, is all of them added to 0.0.
use Rattle.std.proofs.Common.{sym, ◌∙◌}
use Rattle.sums.proofs.Mapped.{added_one, added_none}
use Rattle.sums.proofs.sum.add_up.Goals as goal

pub loop-x-preserved : goal.loop-x-preserved
loop-x-preserved g c =
    λ v each.
    added_one v c.args.xs.now c.loop-x.s c.loop-x.x-index c.loop-x-test.true c.x-item.is (each c.x-item.result c.value-s.result c.value-s.ensures)
    ∙ c.loop-x.invariant v each

pub returns : goal.returns
returns g c = λ v each. sym (added_none v c.args.xs.now c.loop-x.s c.loop-x.x-index c.loop-x-test.false) ∙ c.loop-x.invariant v each
