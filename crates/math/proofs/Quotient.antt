-- A quotient of whole numbers is one rounding, and rounding can't pass a whole number below 2^53.
use mathlib.Core.Path.{sym, ap, subst}
use mathlib.Core.Bool.{false}
use Prim.Native.Nat.{ℕ, ◌*◌, ◌^◌, ◌<◌, ◌≤◌}
use native.Mathlib.Nat.{mul-pos, mul-one, one-mul, le_trans, le_of_eq}
use lib.Pow.{pow_pos}
use lib.Ieee.{binary64, div}
use Rattle.math.specs.Sum.{whole}
use Rattle.math.proofs.Value.{div_value}
use Rattle.math.proofs.Bound.{AtMost, round_at_most}
use Rattle.math.proofs.Sums.{whole_value}

pub quotient_at_most : (k a n : ℕ) → 0 < n → a ≤ k * n → a ≤ 2 ^ 53 → n ≤ 2 ^ 53 → k < 2 ^ 53 → AtMost k (div binary64 (whole a) (whole n))
quotient_at_most k a n N h A M K =
    subst (AtMost k) (sym (div_value binary64 (whole a) (whole n) false false a 1 n 1 (pow_pos 0) N (whole_value a A) (whole_value n M)))
    (round_at_most binary64 false (a * 1) (1 * n) k (mul-pos (pow_pos 0) N) (le_trans (le_of_eq (mul-one a)) (le_trans h (le_of_eq (ap (λ (z : ℕ). k * z) (sym (one-mul n)))))) K)
