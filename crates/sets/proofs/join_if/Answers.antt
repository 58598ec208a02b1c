-- `sets::join_if` meets its contract: two with one parent are in one set already, and so there is nothing to change.
use Rattle.sets.proofs.Roots.{join_one_parent}
use Rattle.sets.proofs.Sweeps.{same_root}
use Rattle.sets.proofs.join_if.Goals as goal

pub returns-then-parents-a-clause-joined : goal.returns-then-parents-a-clause-joined
returns-then-parents-a-clause-joined g c t s =
    let pre = c.requires.pair in join_one_parent t pre.0 pre.1 pre.2 c.if-parents-a.true

pub returns-then-parents-a-clause-one : goal.returns-then-parents-a-clause-one
returns-then-parents-a-clause-one g c e =
    let pre = c.requires.pair in same_root pre.0 pre.1 pre.2 c.if-parents-a.true
