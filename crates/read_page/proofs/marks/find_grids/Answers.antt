-- `marks::find_grids` meets its contract: the limit is small, and there is room for the boxes that are lent on.
use Rattle.grids.proofs.Accepting.{limit_small}
use Rattle.read_page.proofs.Boxed.{grids_room}
use Rattle.read_page.proofs.marks.find_grids.Goals as goal

pub find-requires : goal.find-requires
find-requires c =
    (limit_small c.args.p c.args.xheight c.requires.0 c.limit-limit.ensures, c.requires.2, grids_room c.args.n c.args.boxes.now c.requires.1 c.requires.3)
