-- `sorted::first_at_least` meets its contract: every key before `low` is below the bound, and from `high` on none is.
use mathlib.Core.List.{List}
use Prim.Native.Nat.{ℕ, ◌-◌, ◌≤◌, ◌<◌}
use Rattle.sorted.specs.Steps.{key_at}
use Rattle.sorted.proofs.first_at_least.Given as goal

pub record Bracket (keys order : List ℕ) (n bound low high : ℕ) : Type 0 where
  pub apart : low ≤ high
  pub up_to : high ≤ n
  pub before : (k : ℕ) → k < low → key_at keys order k < bound
  pub behind : (k : ℕ) → high ≤ k → k < n → bound ≤ key_at keys order k

abbrev pub invariant-loop-low : goal.invariant-loop-low
invariant-loop-low l = Bracket l.keys l.order l.n l.bound l.low l.high

abbrev pub decreases-loop-low : goal.decreases-loop-low
decreases-loop-low l = l.high - l.low
