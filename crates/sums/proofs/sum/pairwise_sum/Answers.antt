-- `sums::sum::pairwise_sum` meets its contract: each value gives itself.
use Rattle.std.proofs.Common.{rules, ap, ◌∙◌}
use Rattle.std.proofs.lemmas.List.{map-id}
use Rattle.math.specs.Sum.{pairwise_sum}
use Rattle.sums.proofs.sum.pairwise_sum.Goals as goal

pub returns : goal.returns
returns c = c.pairwise_sum_of.ensures (λ x. x) (λ x r e. search rules) ∙ ap pairwise_sum (map-id c.args.values.now)
