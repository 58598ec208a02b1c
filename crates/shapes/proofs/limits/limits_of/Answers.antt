-- `limits::limits_of` meets its contract: passed questions bound both limits.
use Rattle.params.proofs.Limits.{limits, limit_fits}
use Rattle.shapes.proofs.limits.limits_of.Goals as goal

pub limit-join-requires : goal.limit-join-requires
limit-join-requires c = limit_fits (limits c.args.p c.args.xheight c.requires).join

pub limit-cluster-requires : goal.limit-cluster-requires
limit-cluster-requires c = limit_fits (limits c.args.p c.args.xheight c.requires).line
