-- `facts::measure` meets its contract: after t turns the first t tables are measured.
use Rattle.listings.specs.Listed.{set_of}
use Rattle.meeting.specs.Segments.{ruling}
use Rattle.table_lists.proofs.facts.measure.Invariants.{turn}
use Rattle.table_lists.proofs.facts.measure.Goals as goal

pub loop-t-preserved : goal.loop-t-preserved
loop-t-preserved c =
    let a = c.args in
    let b = c.requires.tables_in_bounds in
    turn a.join (ruling a.rulings.now) (set_of a.sets.now) a.numbers.now a.sizes.now a.shares.now c.loop-t.invariant c.loop-t-test.true c.requires.given.1.room b.0 b.1 c.at-set.ensures c.share.ensures
