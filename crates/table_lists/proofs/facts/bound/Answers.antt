-- `facts::bound` meets its contract: after t turns the rectangles of the first t tables are written.
use mathlib.Core.Path.{◌∙◌}
use native.Mathlib.Omega.{arith}
use Rattle.listings.specs.Listed.{set_of}
use Rattle.table_lists.proofs.facts.bound.Invariants.{turn}
use Rattle.table_lists.proofs.facts.bound.Goals as goal

pub loop-t-preserved : goal.loop-t-preserved
loop-t-preserved c =
    let a = c.args in
    c.put_rect.ensures
    ∙ turn a.rulings.now.rects a.rulings.now.chosen (set_of a.sets.now) a.numbers.now a.out.now c.loop-t.invariant (omega (arith, c.requires.1.room)) (omega (arith, c.requires.2)) c.around_set.ensures c.at-set.ensures
