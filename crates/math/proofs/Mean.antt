-- The mean's bound: a median less a mean, one rounding in the division and one in the subtraction, is within 2 ^ -45 of the exact fraction.
-- Each result is below 256 in size, so each rounding is off by half of 2 ^ -45 at most.
use mathlib.Core.Path.{◌≡◌, refl, sym, ap, ◌∙◌, subst}
use Prim.Native.Nat.{ℕ, ◌+◌, ◌-◌, ◌*◌, ◌^◌, ◌≤◌, ◌<◌}
use native.Mathlib.Nat.{mul-one, one-mul, zero-mul, add-mul, mul-add, mul_assoc, mul_comm, mul_left_comm, mul_right_comm, mul-pos, mul-le-mul_left, mul-le-mul_right, le_trans, le_of_eq, le_of_mul-le-mul_right, sub-add_cancel, sub-le, le_of_lt}
use native.Mathlib.Omega.{arith}
use mathlib.Core.Bool.{Bool, true, false, not, cond, true≢false}
use lib.Dec.{T, ltb, ltb→lt, nltb→le, lit<}
use lib.IntN.{pos}
use lib.Pow.{pow_pos}
use lib.Ieee.{Float, nan, inf, fin, binary64, prec, low, down, up, round, sum, sub, div, of_int}
use lib.Ieee.Back.{round_whole}
use lib.Ieee.Exact.{HasValue}
use lib.Ieee.Scale.{grid, round_same}
use Rattle.math.specs.Near.{Within}
use Rattle.math.proofs.Value.{div_value, sub_value}
use Rattle.math.proofs.Ulp.{Half, half_unit, round_value}
use Rattle.math.proofs.Bound.{grid_at_most, grid_under}

-- ---- nearness over plain numbers

-- (p - q) / l is within u / l of (a - b) / n
pub record Close (p q l a b n u : ℕ) : Type 0 where
  pub not_above : p * n + b * l ≤ q * n + a * l + n * u
  pub not_below : q * n + a * l ≤ p * n + b * l + n * u

-- with x / d = p / l: the same sum at the other scale
side : (x p d l n b : ℕ) → x * l ≡ p * d → (x * n + b * d) * l ≡ (p * n + b * l) * d
side x p d l n b e =
    add-mul (x * n) (b * d) l
    ∙ ap (λ (z : ℕ). z + b * d * l) (mul_right_comm x n l ∙ ap (λ (z : ℕ). z * n) e ∙ mul_right_comm p d n)
    ∙ ap (λ (z : ℕ). p * n * d + z) (mul_right_comm b d l)
    ∙ sym (add-mul (p * n) (b * l) d)

-- one side of Close at the scale l, with k * u = l, is one side of Within at the scale d
rescale : (k p q l d x y a b n u : ℕ) → 0 < l → k * u ≡ l → x * l ≡ p * d → y * l ≡ q * d → p * n + b * l ≤ q * n + a * l + n * u → k * (x * n + b * d) ≤ k * (y * n + a * d) + n * d
rescale k p q l d x y a b n u L e f g h =
    let lhs : k * (x * n + b * d) * l ≡ k * ((p * n + b * l) * d) = mul_assoc k (x * n + b * d) l ∙ ap (λ (z : ℕ). k * z) (side x p d l n b f) in
    let unit : n * d * l ≡ k * (n * u * d) = ap (λ (z : ℕ). n * d * z) (sym e) ∙ simp (mul_assoc, mul_comm, mul_left_comm) in
    let rhs : (k * (y * n + a * d) + n * d) * l ≡ k * ((q * n + a * l + n * u) * d) =
    add-mul (k * (y * n + a * d)) (n * d) l
    ∙ ap (λ (z : ℕ). z + n * d * l) (mul_assoc k (y * n + a * d) l ∙ ap (λ (z : ℕ). k * z) (side y q d l n a g))
    ∙ ap (λ (z : ℕ). k * ((q * n + a * l) * d) + z) unit
    ∙ sym (mul-add k ((q * n + a * l) * d) (n * u * d))
    ∙ ap (λ (z : ℕ). k * z) (sym (add-mul (q * n + a * l) (n * u) d)) in
    le_of_mul-le-mul_right (le_trans (le_of_eq lhs) (le_trans (mul-le-mul_left k (mul-le-mul_right d h)) (le_of_eq (sym rhs)))) L

-- a float of the sign s and the size h / l that is Close to a fraction is Within
close_within : (k : ℕ) (x : Float) (s : Bool) (h l a b n u : ℕ) → 0 < l → 2 ^ k * u ≡ l → HasValue x s h l → Close (cond s 0 h) (cond s h 0) l a b n u → Within k x a b n
close_within k nan s h l a b n u L e v c = absurd v
close_within k (inf t) s h l a b n u L e v c = absurd v
close_within k (fin true m g) false h l a b n u L e v c = absurd (true≢false v.0)
close_within k (fin false m g) true h l a b n u L e v c = absurd (true≢false (sym v.0))
close_within k (fin true m g) true h l a b n u L e v c =
    let z : 0 * l ≡ 0 * down g = zero-mul l ∙ sym (zero-mul (down g)) in
    record {
      finite = tt;
      not_above = rescale (2 ^ k) 0 h l (down g) 0 (m * up g) a b n u L e z v.1 c.not_above;
      not_below = rescale (2 ^ k) h 0 l (down g) (m * up g) 0 b a n u L e v.1 z c.not_below;
    }
close_within k (fin false m g) false h l a b n u L e v c =
    let z : 0 * l ≡ 0 * down g = zero-mul l ∙ sym (zero-mul (down g)) in
    record {
      finite = tt;
      not_above = rescale (2 ^ k) h 0 l (down g) (m * up g) 0 a b n u L e v.1 z c.not_above;
      not_below = rescale (2 ^ k) 0 h l (down g) 0 (m * up g) b a n u L e z v.1 c.not_below;
    }

-- ---- two half units make one

scaled : (p d u n : ℕ) → Half p d u → Half (p * n) (d * n) (n * u)
scaled p d u n h =
    let a : 2 * p * n ≤ 2 * d * n + u * n = le_trans (mul-le-mul_right n h.not_above) (le_of_eq (add-mul (2 * d) u n)) in
    let b : 2 * d * n ≤ 2 * p * n + u * n = le_trans (mul-le-mul_right n h.not_below) (le_of_eq (add-mul (2 * p) u n)) in
    let c : 2 * p * n ≡ 2 * (p * n) = mul_assoc 2 p n in
    let e : 2 * d * n ≡ 2 * (d * n) = mul_assoc 2 d n in
    let f : u * n ≡ n * u = mul_comm u n in
    record { not_above = omega arith; not_below = omega arith }

unscaled : (p d u l : ℕ) → 0 < l → Half (p * l) (d * l) (l * u) → Half p d u
unscaled p d u l L h =
    let a : 2 * p * l ≡ 2 * (p * l) = mul_assoc 2 p l in
    let b : 2 * d * l ≡ 2 * (d * l) = mul_assoc 2 d l in
    let c : (2 * d + u) * l ≡ 2 * d * l + u * l = add-mul (2 * d) u l in
    let e : (2 * p + u) * l ≡ 2 * p * l + u * l = add-mul (2 * p) u l in
    let f : u * l ≡ l * u = mul_comm u l in
    let i = h.not_above in
    let j = h.not_below in
    let x : 2 * p * l ≤ (2 * d + u) * l = omega arith in
    let y : 2 * d * l ≤ (2 * p + u) * l = omega arith in
    record { not_above = le_of_mul-le-mul_right x L; not_below = le_of_mul-le-mul_right y L }

-- a mean g / l near s / n, and a median m: the difference h / l near m - g / l is near m - s / n, whichever is larger
module _ (h g m s n l u : ℕ) (mean : Half (g * n) (s * l) (n * u)) where
  lower : (d : ℕ) → d + m * l ≡ g → Half h d u → Close 0 h l (m * n) s n u
  lower d e near =
      let x = scaled h d u n near in
      let a = x.not_above in
      let b = x.not_below in
      let c = mean.not_above in
      let f = mean.not_below in
      let i : d * n + m * l * n ≡ g * n = sym (add-mul d (m * l) n) ∙ ap (λ (z : ℕ). z * n) e in
      let j : m * l * n ≡ m * n * l = mul_right_comm m l n in
      let k : 0 * n ≡ 0 = zero-mul n in
      record { not_above = omega arith; not_below = omega arith }

  upper : (d : ℕ) → d + g ≡ m * l → Half h d u → Close h 0 l (m * n) s n u
  upper d e near =
      let x = scaled h d u n near in
      let a = x.not_above in
      let b = x.not_below in
      let c = mean.not_above in
      let f = mean.not_below in
      let i : d * n + g * n ≡ m * l * n = sym (add-mul d g n) ∙ ap (λ (z : ℕ). z * n) e in
      let j : m * l * n ≡ m * n * l = mul_right_comm m l n in
      let k : 0 * n ≡ 0 = zero-mul n in
      record { not_above = omega arith; not_below = omega arith }

-- ---- the floats

whole : (n : ℕ) → n ≤ 2 ^ 53 → HasValue (of_int binary64 (pos n)) false n 1
unfolding of_int
whole n h = round_whole binary64 false n h

abbrev L : ℕ
L = 2 ^ low binary64

-- the unit in the last place of a result below 256
abbrev U : ℕ
U = 2 ^ (8 + low binary64 - prec binary64)

below_256 : (a c : ℕ) → 0 < c → a ≤ 255 * c → a < 2 ^ 8 * c
below_256 a c C h = omega arith

-- a rounded difference d / L of at most 255
rounded : (s : Bool) (d a b n : ℕ) → d ≤ 255 * L → ((h : ℕ) → Half h d U → Close (cond s 0 h) (cond s h 0) L a b n U) → Within 45 (round binary64 s d (1 * L)) a b n
rounded s d a b n D near =
    let h = grid binary64 d L in
    close_within 45 (round binary64 s d L) s h L a b n U (pow_pos (low binary64)) refl (round_value binary64 s d L (grid_under binary64 d L 255 (pow_pos (low binary64)) D (lit< tt)))
    (near h (unscaled h d U L (pow_pos (low binary64)) (half_unit binary64 d L 8 (pow_pos (low binary64)) (below_256 d L (pow_pos (low binary64)) D))))

-- the signed difference m - g / L, of which neither part is above 255
difference : (m g s n : ℕ) → m ≤ 255 → g ≤ 255 * L → Half (g * n) (s * L) (n * U) → Within 45 (sum binary64 false (m * L) true (g * 1) (1 * L)) (m * n) s n
unfolding sum
difference m g s n M G mean = go (ltb (m * L) (g * 1)) (ltb→lt (m * L) (g * 1)) (nltb→le (m * L) (g * 1))
  where
    go : (b : Bool) → (T b → m * L < g * 1) → (T (not b) → g * 1 ≤ m * L) → Within 45 (cond b (round binary64 true (g * 1 - m * L) (1 * L)) (round binary64 false (m * L - g * 1) (1 * L))) (m * n) s n
    go true lt le =
        rounded true (g * 1 - m * L) (m * n) s n (le_trans (sub-le (g * 1) (m * L)) (le_trans (le_of_eq (mul-one g)) G))
        (λ h near. lower h g m s n L U mean (g * 1 - m * L) (sub-add_cancel (le_of_lt (lt tt)) ∙ mul-one g) near)
    go false lt le =
        rounded false (m * L - g * 1) (m * n) s n (le_trans (sub-le (m * L) (g * 1)) (mul-le-mul_right L M))
        (λ h near. upper h g m s n L U mean (m * L - g * 1) (ap (λ (z : ℕ). m * L - g * 1 + z) (sym (mul-one g)) ∙ sub-add_cancel (le tt)) near)

-- the median, a whole number, less sum over count: the three are exact, the quotient and the difference rounded
abbrev pub median_less_mean : ℕ → ℕ → ℕ → Float
median_less_mean m s n = sub binary64 (of_int binary64 (pos m)) (div binary64 (of_int binary64 (pos s)) (of_int binary64 (pos n)))

pub mean_within : (m s n : ℕ) → m ≤ 255 → s ≤ 255 * n → 0 < n → n ≤ 2 ^ 45 → Within 45 (median_less_mean m s n) (m * n) s n
mean_within m s n M S N small =
    let g = grid binary64 s n in
    let quotient : div binary64 (of_int binary64 (pos s)) (of_int binary64 (pos n)) ≡ round binary64 false s n =
    div_value binary64 (of_int binary64 (pos s)) (of_int binary64 (pos n)) false false s 1 n 1 (pow_pos 0) N (whole s (omega arith)) (whole n (omega arith))
    ∙ round_same binary64 false (s * 1) (1 * n) s n (mul-pos (pow_pos 0) N) N (simp (mul-one, one-mul)) in
    let mean-value : HasValue (round binary64 false s n) false g L = round_value binary64 false s n (grid_under binary64 s n 255 N S (lit< tt)) in
    let is =
    ap (λ (z : Float). sub binary64 (of_int binary64 (pos m)) z) quotient
    ∙ sub_value binary64 (of_int binary64 (pos m)) (round binary64 false s n) false false m 1 g L (pow_pos 0) (pow_pos (low binary64)) (whole m (omega arith)) mean-value in
    subst (λ (z : Float). Within 45 z (m * n) s n) (sym is)
    (difference m g s n M (grid_at_most binary64 s n 255 N S (lit< tt)) (half_unit binary64 s n 8 N (below_256 s n N S)))
