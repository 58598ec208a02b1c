-- `ends::joined_ends` meets its contract. The invariant: what was counted, with what is left, makes the whole.
use Rattle.meeting.specs.Segments.{ruling}
use Rattle.meeting.proofs.Rulings.{member_within}
use Rattle.junctions.proofs.ends.joined_ends.Invariants.{begun, turn}
use Rattle.junctions.proofs.ends.joined_ends.Goals as goal

pub loop-i-init : goal.loop-i-init
loop-i-init c =
    begun c.args.join (ruling c.args.rulings.now) c.args.set.now

pub joined_of-joined-requires : goal.joined_of-joined-requires
joined_of-joined-requires c =
    (c.requires.0, c.requires.1, member_within c.args.set.now c.requires.0 c.loop-i.i-index c.loop-i-test.true)

pub loop-i-preserved : goal.loop-i-preserved
loop-i-preserved c =
    turn c.args.join (ruling c.args.rulings.now) c.args.set.now c.loop-i.invariant c.loop-i-test.true c.joined_of-joined.ensures
