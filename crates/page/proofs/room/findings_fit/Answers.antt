-- `room::findings_fit` meets its contract: the lists are asked one after the other.
use mathlib.Core.Path.{refl}
use Rattle.lists.specs.Lists.{every_below}
use Rattle.page.proofs.room.findings_fit.Goals as goal

pub returns : goal.returns
unfolding every_below
returns c = refl
