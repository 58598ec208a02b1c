-- `score::evidence_of` meets its contract: the llr is clamped, and the rest is as given.
use mathlib.Core.Path.{ap}
use Rattle.evidence.proofs.Scores.{weighed}
use Rattle.evidence.proofs.score.evidence_of.Goals as goal

pub returns : goal.returns
returns c = ap (weighed c.args.value c.args.threshold) c.clamp.ensures
