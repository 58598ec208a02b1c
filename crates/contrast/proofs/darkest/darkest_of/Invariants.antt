-- `contrast::darkest::darkest_of` meets its contract: `least` is the darkest of the pixels before the next.
use mathlib.Core.Path.{◌≡◌}
use lib.ListN.{take}
use Rattle.paper.specs.Pixels.{darkest_of}
use Rattle.contrast.proofs.darkest.darkest_of.Given as goal

abbrev pub invariant-loop-p : goal.invariant-loop-p
invariant-loop-p l = l.least ≡ darkest_of (take l.p-index l.row)
