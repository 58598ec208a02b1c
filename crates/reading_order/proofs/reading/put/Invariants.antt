-- `reading::put` meets its contract: after k turns the first k members are stored.
use mathlib.Core.Path.{◌≡◌}
use mathlib.Core.List.{List, map}
use Prim.Native.Nat.{ℕ}
use lib.ListN.{length, get_or, take}
use lib.Seq.{paste}
use Rattle.reading_order.proofs.reading.put.Given as goal

-- the members in the order of the places
abbrev pub ordered : List ℕ → List ℕ → List ℕ
ordered s order = map (λ i. get_or s i 0) (take (length s) order)

abbrev pub invariant-loop-k : goal.invariant-loop-k
invariant-loop-k l = l.reading ≡ paste l.initial.reading l.at (ordered l.set l.order) l.k
