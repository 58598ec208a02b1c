-- `contrast::columns::darken_rows` meets its contract: after k turns the entries are the darkest pixels of the first k rows.
use Prim.Native.Nat.{◌+◌, ◌*◌, ◌≤◌}
use lib.ListN.{length}
use Rattle.lists.proofs.Keep.{length_values}
use Rattle.paper.proofs.Pixels.{part_line}
use Rattle.contrast.proofs.Lines.{darkened_more}
use Rattle.contrast.proofs.columns.darken_rows.Goals.{In-loop-k}
use Rattle.contrast.proofs.columns.darken_rows.Goals as goal

-- the next row lies in the raster
inside : (c : In-loop-k) → c.args.start + c.loop-k.k * c.raster.inside.w + c.args.n ≤ length c.raster.inside.pixels.now
inside c = let R = rw (← c.raster.view_is) at c.requires in R.1 c.loop-k.k c.loop-k-test.true

pub loop-k-preserved : goal.loop-k-preserved
loop-k-preserved c =
    let a = c.args in
    let pixels = c.raster.inside.pixels.now in
    let w = c.raster.inside.w in
    darkened_more pixels a.start a.n c.loop-k.k w c.loop-k.least c.darken.new.least c.loop-k.invariant
    (rw (part_line pixels (a.start + c.loop-k.k * w) a.n (inside (goal.at.loop-k-preserved c).In-loop-k), length_values) at c.darken.ensures)
