-- `connect::join_all` meets its contract: each turn tries one row more, and all rows are the whole rule.
use lib.ListN.{length}
use Rattle.sets.specs.Closed.{Below}
use Rattle.sets.specs.Steps.{Joins}
use Rattle.meeting.specs.Segments.{ruling}
use Rattle.crossings.specs.Steps.{Tried}
use Rattle.crossings.proofs.connect.join_all.Given as goal

abbrev pub invariant-loop-i : goal.invariant-loop-i
invariant-loop-i l = Joins (length l.rulings.chosen) (Below (length l.rulings.chosen)) (Tried l.join (ruling l.rulings) l.i) l.parents
