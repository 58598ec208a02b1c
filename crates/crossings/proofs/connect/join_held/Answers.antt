-- `connect::join_held` meets its contract: what is asked of two with different parents is whether the span holds the centre.
use Rattle.std.proofs.Common.{rules}
use lib.ListN.{length}
use Rattle.meeting.specs.Segments.{ruling, span_holds}
use Rattle.crossings.proofs.connect.join_held.Goals as goal

pub returns : goal.returns
returns c =
    let a = c.args in
    rw c.len.ensures.0 at c.join_if.ensures.joined (span_holds a.join (ruling a.rulings.now a.j) a.centre2) (λ r p. search rules)
