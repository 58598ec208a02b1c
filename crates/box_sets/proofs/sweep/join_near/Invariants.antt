-- `sweep::join_near` meets its contract: each turn tries one row more of the order, and once all rows are done all near pairs are joined.
use mathlib.Core.List.{List}
use Prim.Native.Nat.{ℕ, ◌+◌, ◌≤◌}
use Rattle.box_sets.specs.Steps.{SweptTo, OneSet}
use Rattle.box_sets.proofs.sweep.join_near.Given as goal

pub record Rows (rects : List ℕ) (limit : ℕ) (order keys p : List ℕ) (n : ℕ) (q : List ℕ) (known k : ℕ) : Type 0 where
  pub swept : SweptTo rects limit order keys p k (k + 1) q
  pub within : known ≤ n
  pub one : OneSet order k known q

abbrev pub invariant-loop-k : goal.invariant-loop-k
invariant-loop-k l = Rows l.rects l.limit l.order l.keys l.initial.parents l.n l.parents l.known l.k
