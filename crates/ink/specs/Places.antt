-- The first and the last place that passes a test, and the longest unbroken run of such places.
use Rattle.std.specs.Prelude.{Bool, cond, not, ℕ, zero, suc, max, Float}
use Rattle.std.specs.Float.Ieee.{le}
use Rattle.math.specs.Sum.{whole}

-- A count is over a limit, by IEEE comparison: not at most the limit.
abbrev pub over : Float → ℕ → Bool
over limit n = not (le (whole n) limit)

-- The first of k places from i on that passes, and i + k where none does.
unfoldable pub first_from : (ℕ → Bool) → ℕ → ℕ → ℕ
first_from q i zero = i
first_from q i (suc k) = cond (q i) i (first_from q (suc i) k)

-- The first place below n that passes, and n where none does.
abbrev pub first_place : (ℕ → Bool) → ℕ → ℕ
first_place q n = first_from q 0 n

-- One more than the last place below n that passes, and 0 where none does.
unfoldable pub last_end : (ℕ → Bool) → ℕ → ℕ
last_end q zero = 0
last_end q (suc n) = cond (q n) (suc n) (last_end q n)

-- The length of the run that ends at place n, without it.
unfoldable pub run_before : (ℕ → Bool) → ℕ → ℕ
run_before q zero = 0
run_before q (suc n) = cond (q n) (suc (run_before q n)) 0

-- The longest unbroken run below n: a definition that computes (`longest_run_is` is the law).
unfoldable pub longest_run : (ℕ → Bool) → ℕ → ℕ
unfolding run_before
longest_run q zero = 0
longest_run q (suc n) = max (longest_run q n) (run_before q (suc n))
