-- `rules::find_tables` meets its contract: the join limit is small.
use Rattle.tables.proofs.Accepting.{join_of}
use Rattle.read_page.proofs.rules.find_tables.Goals as goal

pub find-requires-clause-join_bound : goal.find-requires-clause-join_bound
find-requires-clause-join_bound c = join_of c.args.p c.args.xheight c.limits_of-limits.ensures c.requires.0
