-- `bands::last_columns` meets its contract: each band that is passed over has no column over the limit.
use Prim.Native.Nat.{◌≤◌}
use Rattle.rects.specs.Rects.{width_of}
use Rattle.ink.specs.Ink.{inked}
use Rattle.ink_bands.specs.Steps.{NoneOver}
use Rattle.ink_bands.proofs.last_columns.Given as goal

abbrev pub invariant-loop-end : goal.invariant-loop-end
invariant-loop-end l = (l.end ≤ width_of l.r.rect) × NoneOver (inked l.r.mask) l.r.rect l.limit l.end (width_of l.r.rect)

abbrev pub decreases-loop-end : goal.decreases-loop-end
decreases-loop-end l = l.end
