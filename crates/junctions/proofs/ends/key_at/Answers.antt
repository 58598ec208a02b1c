-- `ends::key_at` meets its contract: a member of the set is one of the chosen.
use Rattle.meeting.proofs.Rulings.{member_within}
use Rattle.junctions.proofs.ends.key_at.Goals as goal

pub at-requires : goal.at-requires
at-requires c = member_within c.args.set.now c.requires.0 c.args.k c.requires.1
