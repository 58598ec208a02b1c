-- `shear_runs::columns::run_end` meets its contract: up to i all columns have the entry of column `from`.
use mathlib.Core.Path.{◌≡◌}
use Rattle.layout.specs.Tables.{entry}
use Rattle.shear_runs.specs.Steps.{Run}
use Rattle.shear_runs.proofs.columns.run_end.Given as goal

abbrev pub invariant-loop-i : goal.invariant-loop-i
invariant-loop-i l = (l.shear ≡ entry l.table l.from) × Run l.table l.from l.i
