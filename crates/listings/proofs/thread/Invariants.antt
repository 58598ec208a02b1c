-- `listings::thread` meets its contract: once the indexes from i on are in, each of them points at the next with its root, and each smaller root at
-- the first of its set from i on.
use mathlib.Core.Path.{◌≡◌}
use mathlib.Core.List.{List}
use Prim.Native.Nat.{ℕ, suc, ◌≤◌, ◌<◌}
use Rattle.sets.specs.Steps.{entry, First}
use Rattle.listings.proofs.thread.Given as goal

pub record Threading (n : ℕ) (p next : List ℕ) (i : ℕ) : Type 0 where
  pub below : (r : ℕ) → r < i → entry p r ≡ r → First n p r i (entry next r)
  pub above : (j : ℕ) → i ≤ j → j < n → First n p (entry p j) (suc j) (entry next j)

abbrev pub invariant-loop-i : goal.invariant-loop-i
invariant-loop-i l = Threading l.n l.parents l.next l.i
