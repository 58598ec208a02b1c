-- `reading::key_at` meets its contract: a member of the set is a box.
use lib.ListN.{length, get_or}
use Rattle.lists.proofs.Keep.{at_in}
use Rattle.rects.proofs.Questions.{has_numbers}
use Rattle.reading_order.proofs.reading.key_at.Goals as goal

pub rect_at-r-requires : goal.rect_at-r-requires
rect_at-r-requires c =
    let s = c.args.set.now in
    let k = c.args.k in has_numbers (length c.args.rects.now) (get_or s k 0) (c.requires.0.within (get_or s k 0) (at_in s k c.requires.1))
