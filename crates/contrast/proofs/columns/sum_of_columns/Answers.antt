-- `contrast::columns::sum_of_columns` meets its contract: `sum` is that of the first i columns.
use mathlib.Core.Path.{refl}
use Prim.Native.Nat.{◌+◌, ◌*◌, ◌≤◌, ◌<◌}
use native.Mathlib.Omega.{arith}
use Rattle.math.specs.Sum.{total}
use Rattle.contrast.proofs.Lines.{sum_split, columns_le}
use Rattle.contrast.proofs.columns.sum_of_columns.Goals.{After-min-part, After-sum_of_part-sum}
use Rattle.contrast.proofs.columns.sum_of_columns.Goals as goal

pub loop-i-init : goal.loop-i-init
unfolding total
loop-i-init c = (omega arith, omega arith, refl)

-- a part has columns, and ends with the ruling at the latest
parts : (c : After-min-part) → (0 < c.min-part.result) × (c.loop-i.i + c.min-part.result ≤ c.args.n)
parts c = (omega (arith, c.loop-i-test.true), omega (arith, c.loop-i-test.true))

bytes : (c : After-sum_of_part-sum) → c.sum_of_part-sum.result ≤ 255 * c.min-part.result
bytes c =
    let start = c.args in
    rw c.sum_of_part-sum.ensures (columns_le start.raster.now.pixels (start.start + c.loop-i.i) c.min-part.result start.rows start.raster.now.w)

-- stands here since the check alone doesn't know that a part's sum is at most 255 a column
pub overflow_add-sum : goal.overflow_add-sum
overflow_add-sum c = omega (arith, bytes c, parts (goal.at.overflow_add-sum c).After-min-part, c.requires.0)

pub loop-i-preserved : goal.loop-i-preserved
loop-i-preserved c =
    let start = c.args in
    let b = bytes c in
    let p = parts (goal.at.loop-i-preserved c).After-min-part in (
      omega arith,
      omega arith,
      omega (arith, c.loop-i.invariant.2, c.sum_of_part-sum.ensures, sum_split start.raster.now.pixels start.start c.loop-i.i c.min-part.result start.rows start.raster.now.w),
    )
