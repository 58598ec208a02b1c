-- The invariant: what is left of the entries, each by its value, added to s, is all of them added to 0.0.
use Rattle.std.proofs.Common.{◌≡◌, Float, map, drop}
use Rattle.math.specs.Constants.{zero}
use Rattle.math.specs.Sum.{added_to}
use Rattle.sums.proofs.sum.add_up.Given as goal

abbrev pub invariant-loop-x : goal.invariant-loop-x
invariant-loop-x g l =
    (v : _ → Float) → ((x : _) (r : Float) → goal.F-post g l.value x r → r ≡ v x)
    → added_to l.s (map v (drop l.x-index l.xs)) ≡ added_to zero (map v l.xs)
