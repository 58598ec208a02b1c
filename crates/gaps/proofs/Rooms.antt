-- What room for n entries in four lists says, once the test is passed.
use mathlib.Core.Path.{◌≡◌}
use mathlib.Core.Bool.{true}
use Prim.Native.Nat.{ℕ, ◌≤◌, ◌<◌, ◌^◌}
use Rattle.std.proofs.Common.{rules, tests}
use Rattle.gaps.specs.Answers.{room_for}

pub record Rooms (n a b c d : ℕ) : Type 0 where
  pub small : n < 2 ^ 32
  pub first : n ≤ a
  pub second : n ≤ b
  pub third : n ≤ c
  pub fourth : n ≤ d

pub rooms : (n a b c d : ℕ) → room_for n a b c d ≡ true → Rooms n a b c d
rooms n a b c d t = search (rules, tests)
