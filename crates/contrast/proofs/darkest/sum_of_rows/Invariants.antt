-- `contrast::darkest::sum_of_rows` meets its contract: after i turns `sum` is that of the first i rows.
use mathlib.Core.Path.{◌≡◌}
use Prim.Native.Nat.{◌*◌, ◌≤◌}
use Rattle.math.specs.Sum.{total}
use Rattle.contrast.specs.Steps.{rows_darkest}
use Rattle.contrast.proofs.darkest.sum_of_rows.Given as goal

abbrev pub invariant-loop-i : goal.invariant-loop-i
invariant-loop-i l = (l.sum ≤ 255 * l.i) × (l.sum ≡ total (rows_darkest l.pixels l.start l.i l.columns l.w))
