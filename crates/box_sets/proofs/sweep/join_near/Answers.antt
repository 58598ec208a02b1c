-- `sweep::join_near` meets its contract: each turn tries one row more of the order, and once all rows are done all near pairs are joined.
use Rattle.std.proofs.Common.{rules}
use Rattle.box_sets.specs.Steps.{Centred}
use Rattle.box_sets.proofs.Sweeps.{sweep_done}
use Rattle.box_sets.proofs.sweep.join_near.Goals.{After-arrange_by}
use Rattle.box_sets.proofs.sweep.join_near.Goals as goal

centred : (c : After-arrange_by) → Centred c.args.rects.now c.args.axis c.arrange_by.new.keys
centred c i l = let p = c.arrange_by.ensures.keyed i l in search rules

pub join_row-known-requires : goal.join_row-known-requires
join_row-known-requires c = let C = centred (goal.at.join_row-known-requires c).After-arrange_by in search rules

pub returns : goal.returns
returns c =
    let here = (goal.at.returns c).After-arrange_by in
    (sweep_done c.args.axis c.requires.1 (centred here) c.arrange_by.ensures.ordered c.loop-k.invariant.swept c.loop-k-test.false, c.arrange_by.ensures.kept)
