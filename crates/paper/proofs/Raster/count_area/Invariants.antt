-- `Raster::count_area` meets its contract: after k turns the first k rows are counted.
use Rattle.paper.specs.Pixels.{run, pixels_in}
use Rattle.paper.specs.Steps.{Counted}
use Rattle.paper.proofs.Raster.count_area.Given as goal

abbrev pub invariant-loop-k : goal.invariant-loop-k
invariant-loop-k l = Counted (pixels_in l.pixels l.w (run l.a.x l.a.columns) (run l.a.y l.k)) l.initial.counts l.counts
