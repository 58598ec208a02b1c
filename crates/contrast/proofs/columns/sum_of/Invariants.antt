-- `contrast::columns::sum_of` meets its contract: `sum` is that of the values before the next.
use mathlib.Core.Path.{◌≡◌}
use Prim.Native.Nat.{◌*◌, ◌≤◌}
use lib.ListN.{take}
use Rattle.math.specs.Sum.{total}
use Rattle.contrast.proofs.columns.sum_of.Given as goal

abbrev pub invariant-loop-v : goal.invariant-loop-v
invariant-loop-v l = (l.sum ≤ 255 * l.v-index) × (l.sum ≡ total (take l.v-index l.values))
