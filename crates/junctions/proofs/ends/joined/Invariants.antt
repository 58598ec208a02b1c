-- `ends::joined` meets its contract: who stands before the first key or past the last can't join the end, and the others are asked.
use Rattle.meeting.specs.Segments.{ruling}
use Rattle.junctions.proofs.Searching.{Searched}
use Rattle.junctions.proofs.ends.joined.Given as goal

abbrev pub invariant-loop-k : goal.invariant-loop-k
invariant-loop-k l = Searched l.join (ruling l.rulings) l.set l.a l.end l.order l.k
