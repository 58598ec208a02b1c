-- `connect::join_row` meets its contract: what stands before the first place and from the past one on can't touch, and each turn tries one more of the
-- others, whose centres lie within the span.
use lib.ListN.{length}
use Rattle.meeting.specs.Segments.{ruling}
use Rattle.crossings.proofs.Spans.{centre_small}
use Rattle.crossings.proofs.connect.join_row.Invariants.{begun, done, lying, turn}
use Rattle.crossings.proofs.connect.join_row.Goals as goal

pub returns-then-b : goal.returns-then-b
returns-then-b c =
    lying c.args.join (ruling c.args.rulings.now) (length c.args.rulings.now.chosen) c.args.keys.now c.args.order.now c.at-b.ensures c.if-b.true c.requires.joins

pub loop-k-init : goal.loop-k-init
loop-k-init c =
    begun c.args.join (ruling c.args.rulings.now) (length c.args.rulings.now.chosen) c.args.keys.now c.args.order.now (centre_small c.len-n.ensures.1) c.requires.ordered.0 c.at-b.ensures c.if-b.false c.last_key.ensures (rw c.len-n.ensures.0 at c.first_at_least-past.ensures) c.first_key.ensures (rw c.len-n.ensures.0 at c.first_at_least-first.ensures) c.requires.joins

pub loop-k-preserved : goal.loop-k-preserved
loop-k-preserved c =
    turn c.args.join (ruling c.args.rulings.now) (length c.args.rulings.now.chosen) c.args.keys.now c.args.order.now (centre_small c.len-n.ensures.1) c.requires.ordered.0 c.loop-k.invariant c.requires.ordered.1 c.loop-k.auto.k c.loop-k-test.true c.join_held.ensures

pub returns : goal.returns
returns c =
    done c.args.join (ruling c.args.rulings.now) (length c.args.rulings.now.chosen) c.args.keys.now c.args.order.now (centre_small c.len-n.ensures.1) c.requires.ordered.0 c.loop-k.invariant c.loop-k-test.false
