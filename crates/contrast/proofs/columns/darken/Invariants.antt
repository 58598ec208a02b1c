-- `contrast::columns::darken` meets its contract: the first i entries are done, and the rest are as they were.
use Rattle.contrast.proofs.Lines.{DarkenedTo}
use Rattle.contrast.proofs.columns.darken.Given as goal

abbrev pub invariant-loop-i : goal.invariant-loop-i
invariant-loop-i l = DarkenedTo l.row l.i l.initial.least l.least
