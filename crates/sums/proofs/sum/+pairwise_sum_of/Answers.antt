-- `sums::sum::pairwise_sum_of` meets its contract, by the two sentences of the definition: a part of the entries gives that part of the values.
use Rattle.sums.proofs.Mapped.{short_sum, halves_sum}
use Rattle.sums.proofs.sum.+pairwise_sum_of.Goals as goal

pub returns-then-n-le8 : goal.returns-then-n-le8
returns-then-n-le8 g t c = λ v each. short_sum v c.args.xs.now c.if-n-le8.true (c.add_up.ensures v each)

pub returns : goal.returns
returns g t c =
    λ v each. halves_sum v c.args.xs.now c.if-n-le8.false (c.pairwise_sum_of.ensures v each) (c.pairwise_sum_of-2.ensures v each)
