-- `contrast::columns::sum_of_columns` meets its contract: `sum` is that of the first i columns.
use mathlib.Core.Path.{◌≡◌}
use Prim.Native.Nat.{◌-◌, ◌*◌, ◌≤◌}
use Rattle.math.specs.Sum.{total}
use Rattle.contrast.specs.Steps.{columns_darkest}
use Rattle.contrast.proofs.columns.sum_of_columns.Given as goal

abbrev pub invariant-loop-i : goal.invariant-loop-i
invariant-loop-i l = (l.i ≤ l.n) × (l.sum ≤ 255 * l.i) × (l.sum ≡ total (columns_darkest l.raster.pixels l.start l.i l.rows l.raster.w))

abbrev pub decreases-loop-i : goal.decreases-loop-i
decreases-loop-i l = l.n - l.i
