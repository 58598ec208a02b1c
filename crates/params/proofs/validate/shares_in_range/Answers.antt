-- `params::validate::shares_in_range` meets its contract: its tests are the definition's.
use mathlib.Core.Bool.{and_assoc}
use Rattle.params.specs.Settings.{shares_in_range}
use Rattle.params.proofs.validate.shares_in_range.Goals as goal

pub returns : goal.returns
unfolding shares_in_range
returns c = simp (and_assoc)
