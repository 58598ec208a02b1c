-- `lists::append` meets its contract: after k turns the first k entries are stored.
use mathlib.Core.Path.{◌≡◌}
use lib.ListN.{take}
use lib.Seq.{sets}
use Rattle.lists.proofs.append.Given as goal

abbrev pub invariant-loop-k : goal.invariant-loop-k
invariant-loop-k l = l.list ≡ sets l.initial.list l.at (take l.k l.xs)
