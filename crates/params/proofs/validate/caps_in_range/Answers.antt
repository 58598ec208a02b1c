-- `params::validate::caps_in_range` meets its contract: its tests are the definition's.
use mathlib.Core.Path.{sym, ap₂, ◌∙◌}
use mathlib.Core.Bool.{◌&&◌, and-true}
use Rattle.params.specs.Settings.{caps_in_range}
use Rattle.params.proofs.validate.caps_in_range.Goals as goal

pub returns : goal.returns
unfolding caps_in_range
returns c = ap₂ ◌&&◌ c.from_zero_to_million.ensures (c.from_zero_to_million-2.ensures ∙ sym (and-true _))
