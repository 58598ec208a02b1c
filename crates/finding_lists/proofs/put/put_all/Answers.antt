-- `put::put_all` meets its contract. The invariant: the first k findings stand at their ranks, each as `finding` gives it.
use native.Mathlib.Omega.{arith}
use Rattle.std.proofs.Common.{rules}
use Rattle.finding_lists.proofs.Writing.{putting_none, putting_room, putting_more, putting_all}
use Rattle.finding_lists.proofs.put.put_all.Goals as goal

pub loop-k-init : goal.loop-k-init
loop-k-init g c = (putting_none (goal.F-post g c.args.finding) c.requires.ranks_given, search rules)

pub put_ranked-all-requires : goal.put_ranked-all-requires
put_ranked-all-requires g c = putting_room (goal.F-post g c.args.finding) c.requires.ranks_given c.loop-k.invariant.0 c.loop-k-test.true

pub loop-k-preserved : goal.loop-k-preserved
loop-k-preserved g c = (putting_more (goal.F-post g c.args.finding) c.requires.ranks_given c.loop-k.invariant.0 c.loop-k-test.true c.finding.ensures c.put_ranked-all.ensures.wrote, search rules)

pub returns-clause-wrote : goal.returns-clause-wrote
returns-clause-wrote g c = putting_all (goal.F-post g c.args.finding) c.requires.ranks_given c.loop-k.invariant.0 (omega arith)
