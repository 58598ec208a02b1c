-- `rounding::round_output` meets its contract: each way out is the case of the definition that its test names.
use Rattle.std.proofs.Common.{sym}
use Rattle.rounding.proofs.round_output.Goals as goal

pub returns-then-r : goal.returns-then-r
returns-then-r c = simp (sym c.round-r.ensures, c.if-r.true)

pub returns-else-r : goal.returns-else-r
returns-else-r c = simp (sym c.round-r.ensures, c.if-r.false)
