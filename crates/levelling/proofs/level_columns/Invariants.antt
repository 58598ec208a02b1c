-- `levelling::level_columns` meets its contract: the columns are levelled in the rows from the first up to y.
use Rattle.layout.specs.Tables.{entry}
use Rattle.shear_runs.specs.Steps.{Columns}
use Rattle.layout.specs.Steps.{shears_of}
use Rattle.levelling.specs.Steps.{LevelledArea}
use Rattle.levelling.proofs.level_columns.Given as goal

abbrev pub invariant-loop-y : goal.invariant-loop-y
invariant-loop-y l = LevelledArea (shears_of l.shears) l.gray (Columns (entry l.shears.shear_x.now) l.part.from l.part.to) l.fn.rows.from l.y l.initial.out l.out
