-- `select::clamp` meets its contract: each way out is the case of the definition that its tests name.
use Rattle.select.proofs.clamp.Goals as goal

pub returns-then-x-limit : goal.returns-then-x-limit
returns-then-x-limit c = simp c.if-x-limit.true

pub returns-then-limit-x : goal.returns-then-limit-x
returns-then-limit-x c = simp (c.if-x-limit.false, c.if-limit-x.true)

pub returns-else-limit-x : goal.returns-else-limit-x
returns-else-limit-x c = simp (c.if-x-limit.false, c.if-limit-x.false)
