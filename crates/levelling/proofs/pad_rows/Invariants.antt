-- `levelling::pad_rows` meets its contract: the margins are white in the rows from the first up to y.
use Rattle.shear_runs.specs.Steps.{InRows}
use Rattle.layout.specs.Steps.{shears_of}
use Rattle.levelling.specs.Steps.{Whitened, Margins}
use Rattle.levelling.proofs.pad_rows.Given as goal

abbrev pub invariant-loop-y : goal.invariant-loop-y
invariant-loop-y l = Whitened l.shears.sides.w (InRows l.fn.rows.from l.y (Margins (shears_of l.shears))) l.initial.out l.out
