-- `free_findings::list` meets its contract. The invariant: the places of the free rulings so far stand from the front.
use mathlib.Core.Path.{◌≡◌}
use lib.ListN.{take}
use Rattle.lists.specs.Lists.{written}
use Rattle.findings.specs.Made.{free_places}
use Rattle.free_findings.proofs.list.Given as goal

abbrev pub invariant-loop-k : goal.invariant-loop-k
invariant-loop-k l = l.out ≡ written (free_places l.printed (take l.k l.free)) l.initial.out
