-- `unlevelling::unlevel_rows` meets its contract: the page columns up to x are back.
use Prim.Native.Nat.{◌-◌, ◌≤◌}
use lib.ListN.{length}
use Rattle.layout.specs.Steps.{shears_of}
use Rattle.unlevelling.specs.Steps.{BackArea, PageColumns}
use Rattle.unlevelling.proofs.unlevel_rows.Given as goal

abbrev pub invariant-loop-x : goal.invariant-loop-x
invariant-loop-x l = (l.x ≤ length l.shears.shear.now) × BackArea (shears_of l.shears) l.level (PageColumns 0 l.x) l.rows.from l.rows.to l.initial.out l.out

abbrev pub decreases-loop-x : goal.decreases-loop-x
decreases-loop-x l = length l.shears.shear.now - l.x
