-- `gaps::join_row` meets its contract: each turn sees one pair more.
use Rattle.sets.specs.Closed.{Below}
use Rattle.sets.specs.Steps.{Joins, Seen}
use Rattle.gaps.specs.Gaps.{Touch}
use Rattle.gaps.proofs.join_row.Given as goal

abbrev pub invariant-loop-j : goal.invariant-loop-j
invariant-loop-j l = Joins l.n (Below l.n) (Seen (Touch l.values l.gap) l.i l.j) l.parents
