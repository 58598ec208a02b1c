-- `unlevelling::unlevel_run` meets its contract: in the rows from the first up to y the run is back.
use Rattle.layout.specs.Steps.{shears_of}
use Rattle.unlevelling.specs.Steps.{BackArea, PageColumns}
use Rattle.unlevelling.proofs.unlevel_run.Given as goal

abbrev pub invariant-loop-y : goal.invariant-loop-y
invariant-loop-y l = BackArea (shears_of l.shears) l.level (PageColumns l.part.from l.part.to) l.fn.rows.from l.y l.initial.out l.out
