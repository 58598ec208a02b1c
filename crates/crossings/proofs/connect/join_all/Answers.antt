-- `connect::join_all` meets its contract: each turn tries one row more, and all rows are the whole rule.
use native.Mathlib.Omega.{arith}
use lib.ListN.{length}
use Rattle.meeting.specs.Segments.{ruling}
use Rattle.crossings.proofs.Crossing.{none_tried, all_tried}
use Rattle.crossings.proofs.connect.join_all.Goals as goal

pub loop-i-init : goal.loop-i-init
loop-i-init c =
    rw (c.begin.ensures, c.len-n.ensures.0) (none_tried c.args.join (ruling c.args.rulings.now) (length c.args.rulings.now.chosen) c.requires.1)

pub returns : goal.returns
returns c =
    all_tried c.args.join (ruling c.args.rulings.now) (length c.args.rulings.now.chosen) c.loop-i.invariant (omega (arith, c.len-n.ensures.0))
