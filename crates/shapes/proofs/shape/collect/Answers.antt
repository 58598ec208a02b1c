-- `shape::collect` meets its contract: after k turns the positions of the first k members that have the direction stand in front.
use native.Mathlib.Omega.{arith}
use Rattle.meeting.specs.Segments.{ruling}
use Rattle.meeting.proofs.Rulings.{member_within}
use Rattle.shapes.proofs.shape.collect.Invariants.{turn}
use Rattle.shapes.proofs.shape.collect.Goals as goal

pub at-a-requires : goal.at-a-requires
at-a-requires c =
    member_within c.args.set.now c.requires.0 c.loop-i.i-index c.loop-i-test.true

pub loop-i-preserved : goal.loop-i-preserved
loop-i-preserved c =
    rw (c.from.ensures, c.from-n.ensures)
    (turn c.args.horizontal (ruling c.args.rulings.now) c.args.set.now c.loop-i.invariant c.loop-i-test.true (omega (arith, c.requires.1)) c.at-a.ensures c.in_direction.ensures)
