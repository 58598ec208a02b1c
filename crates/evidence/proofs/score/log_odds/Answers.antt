-- `score::log_odds` meets its contract, step by step.
use mathlib.Core.Path.{ap, ◌∙◌}
use lib.Ieee.{Float, binary64, add}
use Rattle.math.specs.Constants.{zero}
use Rattle.math.specs.Select.{clamp_to}
use Rattle.evidence.specs.Score.{log_odds}
use Rattle.evidence.proofs.score.log_odds.Goals as goal

pub returns : goal.returns
unfolding log_odds
returns c =
    let a = c.args in
    ap (λ (x : Float). add binary64 a.prior (add binary64 zero x)) (c.clamp.ensures ∙ ap (clamp_to a.cap) c.pairwise_sum-sum.ensures)
