-- `Raster::count_area` meets its contract: after k turns the first k rows are counted.
use Prim.Native.Nat.{◌+◌, ◌*◌, ◌≤◌}
use native.Mathlib.Omega.{arith}
use lib.ListN.{length}
use Rattle.lists.proofs.Keep.{length_values}
use Rattle.paper.proofs.Pixels.{row_inside, part_line}
use Rattle.paper.proofs.Sampling.{room_left, area_more}
use Rattle.paper.proofs.Raster.count_area.Goals.{In-loop-k}
use Rattle.paper.proofs.Raster.count_area.Goals as goal

-- the next row lies in the raster
inside : (c : In-loop-k) → (c.args.a.y + c.loop-k.k) * c.self.inside.w + c.args.a.x + c.args.a.columns ≤ length c.self.inside.pixels.now
inside c =
    let a = c.args.a in
    let R = rw (← c.self.view_is) at c.requires in
    rw R.0 (row_inside c.self.inside.w c.self.inside.h a.x (a.y + c.loop-k.k) a.columns R.1.right (omega (arith, R.1.bottom)))

pub slice_bounds-count_row-end : goal.slice_bounds-count_row-end
slice_bounds-count_row-end c = inside (goal.at.slice_bounds-count_row-end c).In-loop-k

pub count_row-requires : goal.count_row-requires
count_row-requires c =
    let a = c.args.a in
    let R = rw (← c.self.view_is) at c.requires in
    let pixels = c.self.inside.pixels.now in
    let w = c.self.inside.w in
    rw (part_line pixels ((a.y + c.loop-k.k) * w + a.x) a.columns (inside (goal.at.count_row-requires c).In-loop-k), length_values)
    (room_left pixels w a.x a.y a.columns a.rows c.loop-k.k c.args.counts.now c.loop-k.counts R.2 c.loop-k.auto.counts c.loop-k-test.true c.loop-k.invariant)

pub loop-k-preserved : goal.loop-k-preserved
loop-k-preserved c =
    let a = c.args.a in
    let pixels = c.self.inside.pixels.now in
    let w = c.self.inside.w in
    area_more pixels w a.x a.y a.columns c.loop-k.k c.args.counts.now c.loop-k.counts c.count_row.new.counts c.loop-k.invariant
    (rw (part_line pixels ((a.y + c.loop-k.k) * w + a.x) a.columns (inside (goal.at.loop-k-preserved c).In-loop-k)) at c.count_row.ensures)
