-- `touch::join_all` meets its contract: each turn tries one row more of the order, and all rows are the whole rule.
use Prim.Native.Nat.{◌+◌}
use Rattle.pieces.specs.Steps.{SweptTo}
use Rattle.pieces.proofs.touch.join_all.Given as goal

abbrev pub invariant-loop-k : goal.invariant-loop-k
invariant-loop-k l = SweptTo l.pieces l.across l.gap l.order l.k (l.k + 1) l.parents
