-- How near a float is to a fraction, over whole numbers.
use Rattle.std.specs.Prelude.{ℕ, ◌+◌, ◌*◌, ◌^◌, ◌≤◌, cond, T, Float}
use Rattle.std.specs.Float.Ieee.Positive.{num, den}
use Rattle.std.specs.Float.Ieee.Scale.{finite}
use Rattle.math.specs.Select.{negative}

-- A finite x is (above_zero x - below_zero x) / den x.
abbrev pub above_zero : Float → ℕ
above_zero x = cond (negative x) 0 (num x)

abbrev pub below_zero : Float → ℕ
below_zero x = cond (negative x) (num x) 0

-- x is finite and lies within 2 ^ -k of (a - b) / n: either way round the difference, times 2 ^ k, is at most 1.
pub record Within (k : ℕ) (x : Float) (a b n : ℕ) : Type 0 where
  pub finite : T (finite x)
  pub not_above : 2 ^ k * (above_zero x * n + b * den x) ≤ 2 ^ k * (below_zero x * n + a * den x) + n * den x
  pub not_below : 2 ^ k * (below_zero x * n + a * den x) ≤ 2 ^ k * (above_zero x * n + b * den x) + n * den x
