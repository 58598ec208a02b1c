-- `gaps::join_all` meets its contract: each turn sees one row more, and all rows are the whole rule.
use native.Mathlib.Omega.{arith}
use lib.ListN.{length}
use Rattle.sets.specs.Closed.{Below}
use Rattle.sets.proofs.Pairs.{pairs_begin, row_next, all_seen}
use Rattle.gaps.specs.Gaps.{Touch}
use Rattle.gaps.proofs.join_all.Goals as goal

pub loop-i-init : goal.loop-i-init
loop-i-init c =
    let a = c.args in
    let n = length a.values.now in
    rw c.begin.ensures (pairs_begin (Below n) (Touch a.values.now a.gap) c.requires (λ i l. l))

pub loop-i-preserved : goal.loop-i-preserved
loop-i-preserved c = row_next (Touch c.args.values.now c.args.gap) c.join_row.ensures (omega arith)

pub returns : goal.returns
returns c = all_seen _ c.loop-i.invariant (omega arith)
