-- `inner::limit` meets its contract: passed questions bound the limit.
use Rattle.params.proofs.Limits.{limits}
use Rattle.grids.proofs.inner.limit.Goals as goal

pub limit-requires : goal.limit-requires
limit-requires c = (limits c.args.p c.args.xheight c.requires).align
