-- `touch::join_row` meets its contract: each turn tries one pair more, and where it stops early nothing behind can touch.
use Rattle.pieces.specs.Steps.{SweptTo}
use Rattle.pieces.proofs.touch.join_row.Given as goal

abbrev pub invariant-loop-l : goal.invariant-loop-l
invariant-loop-l l = SweptTo l.pieces l.across l.gap l.order l.k l.l l.parents
