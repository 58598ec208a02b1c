-- `four_long` meets its contract.
use mathlib.Core.Path.{refl}
use Rattle.lists.specs.Lists.{every_below}
use Rattle.read_findings.specs.Read.{all_long}
use Rattle.read_findings.proofs.four_long.Goals as goal

pub returns : goal.returns
unfolding all_long every_below
returns g c = refl
