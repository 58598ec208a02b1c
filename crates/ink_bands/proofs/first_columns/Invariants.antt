-- `bands::first_columns` meets its contract: each band that is passed over has no column over the limit.
use Prim.Native.Nat.{◌-◌, ◌≤◌}
use Rattle.ink.specs.Ink.{inked}
use Rattle.ink_bands.specs.Steps.{NoneOver}
use Rattle.ink_bands.proofs.first_columns.Given as goal

abbrev pub invariant-loop-k : goal.invariant-loop-k
invariant-loop-k l = (l.k ≤ l.n) × NoneOver (inked l.r.mask) l.r.rect l.limit 0 l.k

abbrev pub decreases-loop-k : goal.decreases-loop-k
decreases-loop-k l = l.n - l.k
