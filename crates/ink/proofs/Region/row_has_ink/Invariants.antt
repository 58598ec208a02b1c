-- `Region::row_has_ink` meets its contract: no place that was passed has ink.
use mathlib.Core.Path.{◌≡◌}
use mathlib.Core.Bool.{false}
use Prim.Native.Nat.{ℕ, ◌+◌, ◌<◌}
use Rattle.ink.specs.Ink.{inked}
use Rattle.ink.proofs.Region.row_has_ink.Given as goal

abbrev pub invariant-loop-i : goal.invariant-loop-i
invariant-loop-i l = (k : ℕ) → k < l.i → inked l.self.mask (l.x + k) l.y ≡ false
