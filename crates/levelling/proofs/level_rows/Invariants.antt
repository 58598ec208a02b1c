-- `levelling::level_rows` meets its contract: the margins are white, and the page columns up to x are levelled.
use Prim.Native.Nat.{◌-◌, ◌≤◌}
use lib.ListN.{length}
use Rattle.layout.specs.Tables.{entry}
use Rattle.shear_runs.specs.Steps.{Columns}
use Rattle.layout.specs.Steps.{shears_of}
use Rattle.levelling.specs.Steps.{LevelledArea}
use Rattle.levelling.proofs.level_rows.Given as goal

abbrev pub invariant-loop-x : goal.invariant-loop-x
invariant-loop-x l = (l.x ≤ length l.shears.shear.now) × LevelledArea (shears_of l.shears) l.gray (Columns (entry l.shears.shear_x.now) 0 l.x) l.rows.from l.rows.to l.initial.out l.out

abbrev pub decreases-loop-x : goal.decreases-loop-x
decreases-loop-x l = length l.shears.shear.now - l.x
