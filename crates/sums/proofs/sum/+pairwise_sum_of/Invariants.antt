use Rattle.std.proofs.Common.{length}
use Rattle.sums.proofs.sum.+pairwise_sum_of.Given as goal

-- proposed from what the function passes where it calls itself
abbrev pub decreases-pairwise_sum_of : goal.decreases-pairwise_sum_of
decreases-pairwise_sum_of g l = length l.xs.now
