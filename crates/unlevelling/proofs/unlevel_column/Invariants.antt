-- `unlevelling::unlevel_column` meets its contract: in the rows from the first up to y the column is back.
use Prim.Native.Nat.{◌+◌}
use Rattle.layout.specs.Steps.{shears_of}
use Rattle.unlevelling.specs.Steps.{BackArea, PageColumns}
use Rattle.unlevelling.proofs.unlevel_column.Given as goal

abbrev pub invariant-loop-y : goal.invariant-loop-y
invariant-loop-y l = BackArea (shears_of l.shears) l.level (PageColumns l.x (l.x + 1)) l.fn.rows.from l.y l.initial.out l.out
