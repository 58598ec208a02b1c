-- `unlevelling::unlevel_each` meets its contract: the columns from `from` up to x are back.
use Rattle.layout.specs.Steps.{shears_of}
use Rattle.unlevelling.specs.Steps.{BackArea, PageColumns}
use Rattle.unlevelling.proofs.unlevel_each.Given as goal

abbrev pub invariant-loop-x : goal.invariant-loop-x
invariant-loop-x l = BackArea (shears_of l.shears) l.level (PageColumns l.fn.part.from l.x) l.rows.from l.rows.to l.initial.out l.out
