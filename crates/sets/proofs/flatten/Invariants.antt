-- `sets::flatten` meets its contract: going up, a parent below i is a root already, and has the root of i.
use mathlib.Core.Path.{◌≡◌}
use mathlib.Core.List.{map}
use Rattle.lists.specs.Lists.{below, written}
use Rattle.sets.specs.Steps.{root}
use Rattle.sets.proofs.flatten.Given as goal

abbrev pub invariant-loop-i : goal.invariant-loop-i
invariant-loop-i l = l.parents ≡ written (map (root l.initial.parents) (below l.i)) l.initial.parents
