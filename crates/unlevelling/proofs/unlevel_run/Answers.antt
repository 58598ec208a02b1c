-- `unlevelling::unlevel_run` meets its contract: in the rows from the first up to y the run is back.
use mathlib.Core.Path.{refl, ◌∙◌}
use Prim.Native.Nat.{◌+◌, ◌-◌, ◌*◌, ◌<◌}
use native.Mathlib.Omega.{arith}
use Rattle.layout.specs.Steps.{shears_of}
use Rattle.layout.specs.Level.{pixel_in}
use Rattle.shear_runs.proofs.Areas.{rows_then}
use Rattle.unlevelling.specs.Steps.{PageColumns}
use Rattle.unlevelling.proofs.Places.{place_below, run_within, run_shows}
use Rattle.unlevelling.proofs.unlevel_run.Goals as goal

-- what is copied lies in the levelled raster
pub slice_bounds-copy-end-in-loop-y : goal.slice_bounds-copy-end-in-loop-y
slice_bounds-copy-end-in-loop-y c =
    let a = c.args in
    let S = shears_of a.shears.now in
    let pre = c.requires in
    let y = c.loop-y.y in
    let in_page : y < S.sides.ph = omega (arith, c.loop-y-test.true, pre.1.1.1) in
    let start = c.place_of-start.ensures ∙ place_below S a.level.now pre.0 a.part.from y c.down-down.result c.down-down.ensures in
    omega (arith, start, run_within S a.level.now pre.0 c.loop-y.out (c.loop-y.invariant.long ∙ pre.1.0) y in_page a.part.from a.part.to pre.1.1.0)

pub loop-y-preserved : goal.loop-y-preserved
loop-y-preserved c =
    let a = c.args in
    let S = shears_of a.shears.now in
    let pre = c.requires in
    let y = c.loop-y.y in
    let in_page : y < S.sides.ph = omega (arith, c.loop-y-test.true, pre.1.1.1) in
    let start = c.place_of-start.ensures ∙ place_below S a.level.now pre.0 a.part.from y c.down-down.result c.down-down.ensures in
    let s = y * S.sides.pw + a.part.from in
    let n = y * S.sides.pw + a.part.to - s in
    let m = c.place_of-start.result + (a.part.to - a.part.from) - c.place_of-start.result in
    let written = run_shows S a.level.now pre.0 c.loop-y.out (c.loop-y.invariant.long ∙ pre.1.0) y in_page a.part.from a.part.to pre.1.1.0 s n m c.place_of-start.result refl (omega arith) (omega arith) start in
    rows_then S.sides.pw (pixel_in S.sides a.level.now S.shear S.shear_x) (PageColumns a.part.from a.part.to) a.rows.from y (y + 1) c.loop-y.invariant (rw c.copy.ensures written)
