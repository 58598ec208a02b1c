-- Demand 3 for boxes: what `closed_sets` computes is listed, its grids are those that reach the minimum, and each set is read in order.
use Rattle.std.specs.Prelude.{ℕ, List, [], get_or}
use Rattle.rects.specs.Rects.{count}
use Rattle.rects.proofs.Questions.{all_inside_says}
use Rattle.sets.proofs.Grown.{closed_sets_listed}
use Rattle.sets.proofs.Where.{listed_where}
use Rattle.box_sets.specs.Boxes.{touch, box_sets}
use Rattle.reading_order.proofs.ReadingOrder.{in_reading_order}
use Rattle.grids.specs.Grids.{is_grid, grid_numbers}
use Rattle.grids.specs.Call.{Demand3}

pub demand3 : (rects : List ℕ) (limit least : ℕ) → Demand3 rects limit least
unfolding grid_numbers
demand3 rects limit least =
    let L = closed_sets_listed (count rects) (touch rects limit) in
    record {
      listed = L;
      each_grid = listed_where L (is_grid least);
      each_reading = λ t k h.
          in_reading_order rects (get_or (box_sets rects limit) k []) (L.closed k h).ascending (λ i m. all_inside_says 8192 8192 rects t i ((L.closed k h).within i m));
    }
