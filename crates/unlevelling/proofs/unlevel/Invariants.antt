-- `unlevelling::unlevel` meets its contract: the rows up to y are back.
use Prim.Native.Nat.{◌-◌, ◌≤◌}
use Rattle.shear_runs.specs.Steps.{All}
use Rattle.layout.specs.Steps.{shears_of}
use Rattle.unlevelling.specs.Steps.{BackArea}
use Rattle.unlevelling.proofs.unlevel.Given as goal

abbrev pub invariant-loop-y : goal.invariant-loop-y
invariant-loop-y l = (l.y ≤ l.ph) × BackArea (shears_of l.shears) l.level All 0 l.y l.initial.out l.out

abbrev pub decreases-loop-y : goal.decreases-loop-y
decreases-loop-y l = l.ph - l.y
