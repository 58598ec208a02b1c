-- `levelling::level` meets its contract: the rows up to y are levelled.
use Prim.Native.Nat.{◌-◌, ◌≤◌}
use Rattle.shear_runs.specs.Steps.{All}
use Rattle.layout.specs.Steps.{shears_of}
use Rattle.levelling.specs.Steps.{LevelledArea}
use Rattle.levelling.proofs.level.Given as goal

abbrev pub invariant-loop-y : goal.invariant-loop-y
invariant-loop-y l = (l.y ≤ l.h) × LevelledArea (shears_of l.shears) l.gray All 0 l.y l.initial.out l.out

abbrev pub decreases-loop-y : goal.decreases-loop-y
decreases-loop-y l = l.h - l.y
