-- `params::validate::lengths_not_negative` meets its contract: its tests are the definition's.
use mathlib.Core.Bool.{and_assoc, and-true}
use Rattle.params.specs.Settings.{lengths_not_negative}
use Rattle.params.proofs.validate.lengths_not_negative.Goals as goal

pub returns : goal.returns
unfolding lengths_not_negative
returns c = simp (and_assoc, and-true)
