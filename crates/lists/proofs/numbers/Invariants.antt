-- `lists::numbers` meets its contract: after i turns the first i places hold the numbers below i, and the rest is kept.
use mathlib.Core.Path.{◌≡◌}
use Rattle.lists.specs.Lists.{below, written}
use Rattle.lists.proofs.numbers.Given as goal

abbrev pub invariant-loop-i : goal.invariant-loop-i
invariant-loop-i l = l.list ≡ written (below l.i) l.initial.list
