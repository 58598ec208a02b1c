-- Rounding to a whole number, and casts: the doubled value is exact, so its whole part plus one, halved, is the nearest whole number; from 2 ^ 52 on a float is whole already.
use mathlib.Core.Path.{◌≡◌, refl, sym, ap, ◌∙◌, subst}
use Prim.Native.Nat.{ℕ, zero, suc, ◌+◌, ◌-◌, ◌*◌, ◌/◌, ◌^◌, ◌≤◌, ◌<◌, min}
use native.Mathlib.Nat.{le_trans, le_of_eq, lt_of_lt_of_le, lt_of_le_of_lt, lt_of_mul-lt-mul_right, mul-one, zero-mul, mul_assoc, mul_comm, mul_left_comm, mul_right_comm, mul-pos, mul-le-mul_left, mul-le-mul_right, mul-lt-mul_of_pos_right, pow-succ', add-div_right, div-div-eq-div-mul, div-lt_iff_lt-mul, div-eq_of_lt, two-mul, add-mul, le-add_right, le_of_lt, div-mul-le_self, lt-div-mul-add}
use native.Mathlib.Omega.{arith}
use mathlib.Core.Bool.{Bool, true, false, cond, true≢false}
use lib.IntN.{ℤ, pos, negsuc}
use lib.Dec.{T, ltb, lt→ltb, lit<, lit≤}
use lib.Pow.{pow-add, pow_pos}
use lib.Ieee.{Float, nan, inf, fin, Format, binary64, prec, emax, low, up, down, units, odd, round, sum, add, neg, lt, fits, to_unsigned, of_int, of_bits}
use lib.Ieee.Exact.{HasValue}
use lib.Ieee.Fits.{down_pos, round_is}
use lib.Ieee.Nearest.{div_same}
use lib.Ieee.Positive.{num, den}
use lib.Ieee.Order.{drop, kept}
use borrow.Author.Tests.{ltb-true, ltb-false}
use lib.Ieee.Scale.{round_same}
use Rattle.math.specs.Constants as Constants
use Rattle.math.specs.Rounding.{nearest_whole, round_away}
use Rattle.math.proofs.Tests.{no_less}
use Rattle.math.proofs.Value.{Holds, fits_few, fits_holds, holds_value, round_self, add_value}

-- ---- doubling is exact

double_holds : (f : Format) (a c : ℕ) → 0 < c → a < 2 ^ emax f * c → Holds f a c → Holds f (2 * a) c
double_holds f a c C A h =
    let l = 2 ^ low f in
    let d = h.digits in
    let j = h.shift in
    let twice : d * 2 ^ suc j ≡ 2 * (d * 2 ^ j) = ap (λ (z : ℕ). d * z) (pow-succ' 2 j) ∙ mul_left_comm d 2 (2 ^ j) in
    let small : d * 2 ^ j < 2 ^ emax f * l =
    lt_of_mul-lt-mul_right c
    (lt_of_le_of_lt (le_of_eq (sym h.is)) (lt_of_lt_of_le (mul-lt-mul_of_pos_right A (pow_pos (low f))) (le_of_eq (mul_right_comm (2 ^ emax f) c l)))) in
    let limit : 2 * (2 ^ emax f * l) ≡ 2 ^ (low f + suc (emax f)) = sym (mul_assoc 2 (2 ^ emax f) l) ∙ ap (λ (z : ℕ). z * l) (sym (pow-succ' 2 (emax f))) ∙ mul_comm (2 ^ suc (emax f)) l ∙ sym (pow-add 2 (low f) (suc (emax f))) in
    record {
      digits = d;
      shift = suc j;
      few = h.few;
      under = subst (λ (z : ℕ). z < 2 ^ (low f + suc (emax f))) (sym twice) (subst (λ (z : ℕ). 2 * (d * 2 ^ j) < z) limit (double (d * 2 ^ j) (2 ^ emax f * l) small));
      is = mul_assoc 2 a l ∙ ap (λ (z : ℕ). 2 * z) h.is ∙ sym (mul_assoc 2 (d * 2 ^ j) c) ∙ ap (λ (z : ℕ). z * c) (sym twice);
    }
  where
    double : (x y : ℕ) → x < y → 2 * x < 2 * y
    double x y h = omega arith

-- x + x, for a positive x that is not too large
pub double_value : (m : ℕ) (e : ℤ) → T (fits binary64 (fin false m e)) → m * up e < 2 ^ 1023 * down e → HasValue (add binary64 (fin false m e) (fin false m e)) false (2 * (m * up e)) (down e)
unfolding sum
double_value m e p A =
    let a = m * up e in
    let c = down e in
    let C = down_pos e in
    let x = fin false m e in
    let is : add binary64 x x ≡ round binary64 false (2 * a) c =
    add_value binary64 x x false false a c a c C C (refl, refl) (refl, refl)
    ∙ round_same binary64 false (a * c + a * c) (c * c) (2 * a) c (mul-pos C C) C (ap (λ (z : ℕ). z * c) (sym (two-mul (a * c)) ∙ sym (mul_assoc 2 a c)) ∙ mul_assoc (2 * a) c c) in
    subst (λ (z : Float). HasValue z false (2 * a) c) (sym is) (holds_value binary64 false (2 * a) c C (double_holds binary64 a c C A (fits_holds binary64 false m e p)))

-- ---- its whole part, plus one, halved

pub half_of_double : (a c : ℕ) → 0 < c → (2 * a / c + 1) / 2 ≡ nearest_whole a c
half_of_double a c C = ap (λ (z : ℕ). z / 2) (sym (add-div_right (2 * a) C)) ∙ div-div-eq-div-mul (2 * a + c) c 2 ∙ ap (λ (z : ℕ). (2 * a + c) / z) (mul_comm c 2)

-- it is nearest: a / c is at most a half above it and less than a half below the next, so a half goes upward
pub nearest_whole_lem : (a c : ℕ) → 0 < c → (2 * nearest_whole a c * c ≤ 2 * a + c) × (2 * a < 2 * nearest_whole a c * c + c)
nearest_whole_lem a c C =
    let n = nearest_whole a c in
    let C2 : 0 < 2 * c = mul-pos (lit< tt) C in
    let low : n * (2 * c) ≤ 2 * a + c = div-mul-le_self (2 * a + c) (2 * c) in
    let high : 2 * a + c < n * (2 * c) + 2 * c = lt-div-mul-add C2 in
    let e : n * (2 * c) ≡ 2 * n * c = sym (mul_assoc n 2 c) ∙ ap (λ (z : ℕ). z * c) (mul_comm n 2) in
    (omega arith, omega arith)

pub nearest_le : (a c n : ℕ) → 0 < c → a ≤ n * c → nearest_whole a c ≤ n
nearest_le a c n C h = below ((div-lt_iff_lt-mul (mul-pos (lit< tt) C)).1 (room (le_trans (mul-le-mul_left 2 h) (le_of_eq (sym (mul_assoc 2 n c))))))
  where
    below : {x n : ℕ} → x < n + 1 → x ≤ n
    below h = omega arith

    room : 2 * a ≤ 2 * n * c → 2 * a + c < (n + 1) * (2 * c)
    room g =
        let x : (n + 1) * (2 * c) ≡ n * (2 * c) + 1 * (2 * c) = add-mul n 1 (2 * c) in
        let y : n * (2 * c) ≡ 2 * n * c = sym (mul_assoc n 2 c) ∙ ap (λ (z : ℕ). z * c) (mul_comm n 2) in
        omega arith

-- a float below 2 ^ w as an unsigned whole number
pub cut_value : (w : ℕ) (x : Float) (a c : ℕ) → 0 < c → HasValue x false a c → a / c < 2 ^ w → to_unsigned w x ≡ a / c
unfolding to_unsigned
cut_value w nan a c C v h = absurd v
cut_value w (inf s) a c C v h = absurd v
cut_value w (fin true m e) a c C v h = absurd (true≢false v.0)
cut_value w (fin false m e) a c C v h = ap (λ (z : ℕ). min z (2 ^ w - 1)) (div_same (m * up e) (down e) a c (down_pos e) C v.1) ∙ inside (a / c) (2 ^ w) h
  where
    inside : (x y : ℕ) → x < y → min x (y - 1) ≡ x
    inside x y h = omega arith

-- ---- the sign goes through

odd_neg : (d q k l : ℕ) → neg (odd d false q k l) ≡ odd d true q k l
unfolding neg odd
odd_neg d zero k l = refl
odd_neg d (suc q) k l = refl

units_neg : (f : Format) (q k : ℕ) → neg (units f false q k) ≡ units f true q k
unfolding neg units
units_neg f q k = go (ltb (q * 2 ^ k) (2 ^ (low f + suc (emax f))))
  where
    go : (b : Bool) → neg (cond b (odd (suc (prec f)) false q k (low f)) (inf false)) ≡ cond b (odd (suc (prec f)) true q k (low f)) (inf true)
    go true = odd_neg (suc (prec f)) q k (low f)
    go false = refl

pub round_neg : (f : Format) (a c : ℕ) → neg (round f false a c) ≡ round f true a c
round_neg f a c = ap neg (round_is f false a c) ∙ units_neg f (kept (prec f) (a * 2 ^ low f) c) (drop (prec f) (a * 2 ^ low f) c) ∙ sym (round_is f true a c)

-- a zero of either sign
zero_rounds : (s : Bool) (m : ℕ) (e : ℤ) → T (fits binary64 (fin s m e)) → m * up e * 1 ≤ 0 → round binary64 s (nearest_whole (m * up e) (down e)) 1 ≡ fin s m e
zero_rounds s m e p h =
    let z : m * up e ≡ 0 = let k : m * up e * 1 ≡ m * up e = mul-one (m * up e) in omega arith in
    let n : nearest_whole (m * up e) (down e) ≡ 0 = div-eq_of_lt (less (m * up e) (down e) z (down_pos e)) in
    ap (λ (a : ℕ). round binary64 s a 1) n ∙ round_self binary64 (fin s m e) s 0 1 (pow_pos 0) p (refl, mul-one (m * up e) ∙ z ∙ sym (zero-mul (down e)))
  where
    less : (a c : ℕ) → a ≡ 0 → 0 < c → 2 * a + c < 2 * c
    less a c e h = omega arith

-- ---- what is known of x after the tests of `round`

-- from 2 ^ 52 on a number has no fraction
pub whole_from_52 : (x : Float) → T (fits binary64 x) → lt Constants.zero x ≡ true → lt x Constants.two_to52 ≡ false → round_away x ≡ x
unfolding lt of_bits round_away
whole_from_52 nan p h k = refl
whole_from_52 (inf s) p h k = refl
whole_from_52 (fin true m e) p h k = absurd (true≢false (sym h))
whole_from_52 (fin false m (pos j)) p h k = ap (λ (n : ℕ). round binary64 false n 1) (itself (m * 2 ^ j)) ∙ round_self binary64 (fin false m (pos j)) false (m * 2 ^ j) 1 (pow_pos 0) p (refl, refl)
  where
    itself : (a : ℕ) → (2 * a + 1) / (2 * 1) ≡ a
    itself a = omega arith
whole_from_52 (fin false m (negsuc j)) p h k = absurd (too_many m (2 ^ j) (fits_few binary64 false m (negsuc j) p) (pow_pos j) (le_trans (ltb-false (m * 1 * 1) (2 ^ 52 * 2 ^ suc j) k) (le_of_eq (mul-one (m * 1) ∙ mul-one m))) (pow-succ' 2 j))
  where
    too_many : (m r : ℕ) {s : ℕ} → m < 2 ^ 53 → 0 < r → 2 ^ 52 * s ≤ m → s ≡ 2 * r → ⊥
    too_many m r a b c d = omega arith

-- neither above nor below zero: a NaN, or a zero, which is whole
pub whole_zero : (x : Float) → T (fits binary64 x) → lt Constants.zero x ≡ false → lt x Constants.zero ≡ false → round_away x ≡ x
unfolding lt of_bits round_away
whole_zero nan p h k = refl
whole_zero (inf true) p h k = refl
whole_zero (inf false) p h k = refl
whole_zero (fin true m e) p h k = zero_rounds true m e p (none (m * up e * 1) (ltb-false 0 (m * up e * 1 + 0 * down e) k) (zero-mul (down e)))
  where
    none : (a : ℕ) {b : ℕ} → a + b ≤ 0 → b ≡ 0 → a ≤ 0
    none a h e = omega arith
whole_zero (fin false m e) p h k = zero_rounds false m e p (le_trans (ltb-false (0 * down e) (m * up e * 1) h) (le_of_eq (zero-mul (down e))))

-- ---- what `half_up` finds

above_minus_one : (y : Float) (a c : ℕ) → HasValue y false a c → T (lt (fin true 1 (pos 0)) y)
unfolding lt
above_minus_one nan a c v = absurd v
above_minus_one (inf s) a c v = absurd v
above_minus_one (fin true n g) a c v = absurd (true≢false v.0)
above_minus_one (fin false n g) a c v = lt→ltb 0 (1 * down g + n * up g * 1) (lt_of_lt_of_le (mul-pos (lit< tt) (down_pos g)) (le-add_right (1 * down g) (n * up g * 1)))

below_two_to_64 : (y : Float) (a c : ℕ) → 0 < c → a < 2 ^ 64 * c → HasValue y false a c → T (lt y (fin false 1 (pos 64)))
unfolding lt
below_two_to_64 nan a c C h v = absurd v
below_two_to_64 (inf s) a c C h v = absurd v
below_two_to_64 (fin true n g) a c C h v = absurd (true≢false v.0)
below_two_to_64 (fin false n g) a c C h v =
    lt→ltb (n * up g * 1) (2 ^ 64 * down g)
    (lt_of_le_of_lt (le_of_eq (mul-one (n * up g)))
    (lt_of_mul-lt-mul_right c (lt_of_le_of_lt (le_of_eq v.1) (lt_of_lt_of_le (mul-lt-mul_of_pos_right h (down_pos g)) (le_of_eq (mul_right_comm (2 ^ 64) c (down g)))))))

-- x + x, for x above zero and below 2 ^ 52
pub record Doubled (x : Float) : Type 0 where
  pub above : T (lt (fin true 1 (pos 0)) (add binary64 x x))
  pub below : T (lt (add binary64 x x) (fin false 1 (pos 64)))
  pub cut : to_unsigned 64 (add binary64 x x) ≡ 2 * num x / den x
  pub half : (2 * num x / den x + 1) / 2 ≡ nearest_whole (num x) (den x)
  pub small : nearest_whole (num x) (den x) ≤ 2 ^ 52

pub doubled : (x : Float) → T (fits binary64 x) → lt Constants.zero x ≡ true → lt x Constants.two_to52 ≡ true → Doubled x
unfolding lt of_bits
doubled nan p h k = absurd (true≢false (sym h))
doubled (inf true) p h k = absurd (true≢false (sym h))
doubled (inf false) p h k = absurd (true≢false (sym k))
doubled (fin true m e) p h k = absurd (true≢false (sym h))
doubled (fin false m e) p h k =
    let a = m * up e in
    let C = down_pos e in
    let A : a < 2 ^ 52 * down e = lt_of_le_of_lt (le_of_eq (sym (mul-one a))) (ltb-true (a * 1) (2 ^ 52 * down e) k) in
    let v = double_value m e p (more a (down e) A) in
    let D : 2 * a < 2 ^ 64 * down e = twice a (down e) A in
    record {
      above = above_minus_one (add binary64 (fin false m e) (fin false m e)) (2 * a) (down e) v;
      below = below_two_to_64 (add binary64 (fin false m e) (fin false m e)) (2 * a) (down e) C D v;
      cut = cut_value 64 (add binary64 (fin false m e) (fin false m e)) (2 * a) (down e) C v ((div-lt_iff_lt-mul C).1 D);
      half = half_of_double a (down e) C;
      small = nearest_le a (down e) (2 ^ 52) C (le_of_lt A);
    }
  where
    more : (a c : ℕ) → a < 2 ^ 52 * c → a < 2 ^ 1023 * c
    more a c h = lt_of_lt_of_le h (mul-le-mul_right c (lit≤ tt))

    twice : (a c : ℕ) → a < 2 ^ 52 * c → 2 * a < 2 ^ 64 * c
    twice a c h = omega arith

-- the nearest whole number, as a float, is what x rounds to
pub nearest_rounds : (x : Float) → lt Constants.zero x ≡ true → lt x Constants.two_to52 ≡ true → of_int binary64 (pos (nearest_whole (num x) (den x))) ≡ round_away x
unfolding lt of_bits of_int round_away
nearest_rounds nan h k = absurd (true≢false (sym h))
nearest_rounds (inf true) h k = absurd (true≢false (sym h))
nearest_rounds (inf false) h k = absurd (true≢false (sym k))
nearest_rounds (fin true m e) h k = absurd (true≢false (sym h))
nearest_rounds (fin false m e) h k = refl

-- ---- below zero

pub neg_above : (x : Float) → lt x Constants.zero ≡ true → T (lt Constants.zero (neg x))
unfolding lt neg of_bits
neg_above nan h = absurd (true≢false (sym h))
neg_above (inf true) h = tt
neg_above (inf false) h = absurd (true≢false (sym h))
neg_above (fin true m e) h = lt→ltb (0 * down e) (m * up e * 1) (swap (m * up e * 1) (0 * down e) (zero-mul (down e)) (ltb-true 0 (m * up e * 1 + 0 * down e) h))
  where
    swap : (a b : ℕ) → b ≡ 0 → 0 < a + b → b < a
    swap a b e h = omega arith
neg_above (fin false m e) h = absurd (no_less (m * up e * 1) (0 * down e) (zero-mul (down e)) (ltb-true (m * up e * 1) (0 * down e) h))

pub neg_rounds : (x : Float) → lt x Constants.zero ≡ true → neg (round_away (neg x)) ≡ round_away x
unfolding lt neg of_bits round_away
neg_rounds nan h = refl
neg_rounds (inf true) h = refl
neg_rounds (inf false) h = refl
neg_rounds (fin true m e) h = round_neg binary64 (nearest_whole (m * up e) (down e)) 1
neg_rounds (fin false m e) h = absurd (no_less (m * up e * 1) (0 * down e) (zero-mul (down e)) (ltb-true (m * up e * 1) (0 * down e) h))
