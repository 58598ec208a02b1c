-- `sets::join_known` meets its contract: where the two touch, it is `join_if` with a test that is always passed.
use Rattle.std.proofs.Common.{rules, true}
use Rattle.sets.proofs.join_known.Goals as goal

pub returns-then-touch : goal.returns-then-touch
returns-then-touch c = rw c.if-touch.true (c.join_if.ensures.joined true (λ r p. search rules))
