-- `members_of` meets its contract: an empty part is given as none, and any other starts where the set before it ends.
use mathlib.Core.Path.{sym, ap, ◌∙◌}
use lib.ListN.{length}
use Rattle.answers.proofs.Part.{full_part, empty_bounds, full_bounds}
use Rattle.answers.proofs.members_of.members_of.Goals as goal

pub returns-then-size-eq0 : goal.returns-then-size-eq0
returns-then-size-eq0 c = let a = c.args in empty_bounds a.members.now a.ends.now a.count a.set (sym (ap length c.members_of-part.ensures) ∙ c.if-size-eq0.true)

-- the number of a set with a member has an end
pub start_of-requires : goal.start_of-requires
start_of-requires c =
    let a = c.args in
    (full_part a.members.now a.ends.now a.count a.set (λ e. c.if-size-eq0.false (ap length c.members_of-part.ensures ∙ e))).number

pub returns : goal.returns
returns c =
    let a = c.args in
    full_bounds a.members.now a.ends.now a.count a.set c.members_of-part.result.now c.start_of.result c.members_of-part.ensures c.if-size-eq0.false c.start_of.ensures
