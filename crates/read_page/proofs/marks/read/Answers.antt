-- `marks::read` meets its contract: the grids are found among the boxes that were.
use mathlib.Core.Path.{refl}
use Rattle.page.proofs.Fields.{page_of}
use Rattle.read_page.proofs.Known.{known}
use Rattle.read_page.proofs.Boxed.{boxes_ready, few, picture, grids_ready, gridded}
use Rattle.read_page.proofs.Listed.{read_still, reading_still}
use Rattle.read_page.proofs.marks.read.Goals as goal

pub find_boxes-n-requires : goal.find_boxes-n-requires
find_boxes-n-requires c =
    let R = rw (← c.page.view_is) at c.requires in
    rw c.limits_of-limits.ensures (boxes_ready (page_of c.page.inside) (known (page_of c.page.inside) R.given) _ R.room)

pub find_grids-found-requires : goal.find_grids-found-requires
find_grids-found-requires c =
    let R = rw (← c.page.view_is) at c.requires in
    let M = rw c.limits_of-limits.ensures at c.find_boxes-n.ensures in
    grids_ready (page_of c.page.inside) (known (page_of c.page.inside) R.given) _ R.room M

pub returns-clause-done : goal.returns-clause-done
returns-clause-done c =
    let R = rw (← c.page.view_is) at c.requires in
    let K = known (page_of c.page.inside) R.given in
    let M = rw c.limits_of-limits.ensures at c.find_boxes-n.ensures in
    let D = gridded (page_of c.page.inside) K _ R.room M c.find_grids-found.ensures in
    rw (← c.page.view_is)
    (record {
      boxes = M.count;
      grids = D.grid_count;
      box_sets = D.set_count;
      answers = record { boxes = M.rects; marks = M.marks; coverages = M.coverages; reading = D.reading; members = D.members; ends = D.ends; numbers = D.numbers };
      boxes_read = read_still refl refl D.set_count D.read;
      reading_read = reading_still D.set_count D.read_order;
      few = few (page_of c.page.inside) K _ R.room M;
      picture = picture (page_of c.page.inside) K _ R.room M;
      below = M.below_8192;
      work_long = record { parents = c.find_grids-found.auto.parents; order = c.find_grids-found.auto.work; keys = c.find_grids-found.auto.keys };
    })
