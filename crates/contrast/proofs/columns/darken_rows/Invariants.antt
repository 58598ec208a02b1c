-- `contrast::columns::darken_rows` meets its contract: after k turns the entries are the darkest pixels of the first k rows.
use Rattle.contrast.specs.Steps.{Darkened}
use Rattle.contrast.proofs.columns.darken_rows.Given as goal

abbrev pub invariant-loop-k : goal.invariant-loop-k
invariant-loop-k l = Darkened l.pixels l.start l.n l.k l.w l.least
