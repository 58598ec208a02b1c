-- `gaps::join_all` meets its contract: each turn sees one row more, and all rows are the whole rule.
use Prim.Native.Nat.{◌+◌}
use Rattle.sets.specs.Closed.{Below}
use Rattle.sets.specs.Steps.{Joins, Seen}
use Rattle.gaps.specs.Gaps.{Touch}
use Rattle.gaps.proofs.join_all.Given as goal

abbrev pub invariant-loop-i : goal.invariant-loop-i
invariant-loop-i l = Joins l.n (Below l.n) (Seen (Touch l.values l.gap) l.i (l.i + 1)) l.parents
