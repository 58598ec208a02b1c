-- `places::mean` meets its contract.
use mathlib.Core.Path.{ap, ◌∙◌}
use lib.Ieee.{Float, binary64, div}
use lib.ListN.{length}
use Rattle.math.specs.Sum.{whole}
use Rattle.findings.proofs.places.mean.Goals as goal

pub returns : goal.returns
returns c = c.over.ensures ∙ ap (λ (x : Float). div binary64 x (whole (length c.args.places.now))) c.pairwise_sum_at.ensures
