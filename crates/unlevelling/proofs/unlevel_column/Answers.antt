-- `unlevelling::unlevel_column` meets its contract: in the rows from the first up to y the column is back.
use mathlib.Core.Path.{refl, ap, ◌∙◌}
use Prim.Native.Nat.{ℕ, ◌+◌, ◌*◌, ◌<◌}
use native.Mathlib.Omega.{arith}
use lib.ListN.{get_or}
use Rattle.layout.specs.Steps.{shears_of}
use Rattle.layout.specs.Level.{pixel_in}
use Rattle.shear_runs.proofs.Areas.{rows_then}
use Rattle.unlevelling.specs.Steps.{PageColumns}
use Rattle.unlevelling.proofs.Places.{place_below, pixel_shows}
use Rattle.unlevelling.proofs.unlevel_column.Goals as goal

pub loop-y-preserved : goal.loop-y-preserved
loop-y-preserved c =
    let a = c.args in
    let S = shears_of a.shears.now in
    let pre = c.requires in
    let y = c.loop-y.y in
    let in_page : y < S.sides.ph = omega (arith, c.loop-y-test.true, pre.1.1.1) in
    let place = c.place_of.ensures ∙ place_below S a.level.now pre.0 a.x y c.down-down.result c.down-down.ensures in
    let written = pixel_shows S a.level.now pre.0 c.loop-y.out (c.loop-y.invariant.long ∙ pre.1.0) y in_page a.x pre.1.1.0 _ (ap (λ (i : ℕ). get_or a.level.now i 0) place) (y * S.sides.pw + a.x) refl in
    rows_then S.sides.pw (pixel_in S.sides a.level.now S.shear S.shear_x) (PageColumns a.x (a.x + 1)) a.rows.from y (y + 1) c.loop-y.invariant written
