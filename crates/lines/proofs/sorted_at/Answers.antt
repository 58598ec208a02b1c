-- `lines::sorted_at` meets its contract: the sorted order's index is one of the positions'.

use Rattle.lines.proofs.Sorted.{place_within}
use Rattle.lines.proofs.sorted_at.Goals as goal

pub bounds-positions-index : goal.bounds-positions-index
bounds-positions-index c = place_within c.args.positions.now c.args.order.now c.requires.0 c.args.i c.requires.1
