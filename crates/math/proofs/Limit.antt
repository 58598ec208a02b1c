-- Rounded products have whole limits: of two factors that are not below zero and at most a and b it is a whole number from 0 to a * b.
-- A finite float is not below zero where its sign is clear or its size is 0, and rounding keeps both. Last, what tests against a whole number say.
use mathlib.Core.Path.{◌≡◌, refl, sym, ap, ◌∙◌, subst}
use Prim.Native.Nat.{ℕ, ◌+◌, ◌-◌, ◌*◌, ◌/◌, ◌^◌, ◌≤◌, ◌<◌, min}
use native.Mathlib.Nat.{le_trans, le_of_eq, le_of_lt, lt_of_le_of_lt, mul-one, zero-mul, mul-zero, mul_right_comm, mul-pos, mul-le-mul, mul-mul-mul_comm, div-lt_iff_lt-mul, mul-lt-mul_of_pos_right, div-eq_of_lt, le_of_mul-le-mul_right, lt_trans}
use native.Mathlib.Omega.{arith}
use mathlib.Core.Bool.{Bool, true, false, ◌&&◌, ◌||◌, true≢false}
use lib.IntN.{ℤ, pos, neg_ℤ}
use lib.Dec.{T, ltb, eqb, lt→ltb, lit<}
use lib.Pow.{pow_pos}
use lib.Ieee.{Float, nan, inf, fin, Format, binary64, prec, low, up, down, unlike, round, mul, lt, le, eq, to_signed, of_bits}
use lib.Ieee.Exact.{HasValue}
use lib.Ieee.Fits.{down_pos}
use lib.Ieee.Positive.{num, den, positive, den_pos, first_pos}
use lib.Ieee.Scale.{finite, grid}
use borrow.Author.Tests.{ltb-true, ltb-false, eqb-true, le-ltb}
use Rattle.math.specs.Constants as Constants
use Rattle.math.specs.Rounding.{nearest_whole, round_away, rounded_product}
use Rattle.math.specs.Steps.{UpTo}
use Rattle.math.specs.Select.{absolute, negative}
use Rattle.math.proofs.Bound.{AtMost, own_value, grid_at_most, grid_under, round_at_most, mul_at_most}
use Rattle.math.proofs.Rounded.{nearest_le}
use Rattle.math.proofs.Ulp.{round_value}
use Rattle.math.proofs.Value.{mul_value}

-- ---- not below zero

-- the sign is clear, or the size is 0
abbrev Unsigned : Bool → ℕ → Type 0
Unsigned s a = s ≡ true → a ≡ 0

unsigned : (x : Float) → T (finite x) → lt x Constants.zero ≡ false → Unsigned (negative x) (num x)
unfolding lt of_bits
unsigned nan t h s = absurd t
unsigned (inf u) t h s = absurd t
unsigned (fin true m e) t h s = no_sum (m * up e) (0 * down e) (ltb-false 0 (m * up e * 1 + 0 * down e) h)
  where
    no_sum : (a b : ℕ) → a * 1 + b ≤ 0 → a ≡ 0
    no_sum a b h = let e : a * 1 ≡ a = mul-one a in omega arith
unsigned (fin false m e) t h s = absurd (true≢false (sym s))

value_not_below : (x : Float) (s : Bool) (a c : ℕ) → 0 < c → Unsigned s a → HasValue x s a c → lt x Constants.zero ≡ false
unfolding lt of_bits
value_not_below nan s a c C u v = absurd v
value_not_below (inf t) s a c C u v = absurd v
value_not_below (fin false m e) s a c C u v = le-ltb (m * up e * 1) (0 * down e) (le_trans (le_of_eq (zero-mul (down e))) (omega arith))
value_not_below (fin true m e) s a c C u v = le-ltb 0 (m * up e * 1 + 0 * down e) (both (le_of_mul-le-mul_right (le_of_eq (v.1 ∙ ap (λ (z : ℕ). z * down e) (u (sym v.0)) ∙ zero-mul (down e) ∙ sym (zero-mul c))) C))
  where
    both : m * up e ≤ 0 → m * up e * 1 + 0 * down e ≤ 0
    both h =
        let p : m * up e * 1 ≡ m * up e = mul-one (m * up e) in
        let q : 0 * down e ≡ 0 = zero-mul (down e) in
        omega arith

round_not_below : (f : Format) (s : Bool) (a c n : ℕ) → 0 < c → a ≤ n * c → n < 2 ^ prec f → Unsigned s a → lt (round f s a c) Constants.zero ≡ false
round_not_below f s a c n C h N u = value_not_below (round f s a c) s (grid f a c) (2 ^ low f) (pow_pos (low f)) (λ t. stays (u t)) (round_value f s a c (grid_under f a c n C h N))
  where
    none : {g l : ℕ} → g ≤ l → l ≡ 0 → g ≡ 0
    none h e = omega arith

    stays : a ≡ 0 → grid f a c ≡ 0
    stays z = none (grid_at_most f a c 0 C (le_of_eq (z ∙ sym (zero-mul c))) (pow_pos (prec f))) (zero-mul (2 ^ low f))

pub mul_not_below : (f : Format) (a b : ℕ) (x y : Float) → AtMost a x → AtMost b y → a * b < 2 ^ prec f → lt x Constants.zero ≡ false → lt y Constants.zero ≡ false → lt (mul f x y) Constants.zero ≡ false
mul_not_below f a b x y h k N p q =
    subst (λ (z : Float). lt z Constants.zero ≡ false)
    (sym (mul_value f x y (negative x) (negative y) (num x) (den x) (num y) (den y) (den_pos x) (den_pos y) (own_value x h.finite) (own_value y k.finite)))
    (round_not_below f (unlike (negative x) (negative y)) (num x * num y) (den x * den y) (a * b) (mul-pos (den_pos x) (den_pos y))
    (le_trans (mul-le-mul h.size k.size) (le_of_eq (mul-mul-mul_comm a (den x) b (den y)))) N
    (either (negative x) (negative y) (num x) (num y) (unsigned x h.finite p) (unsigned y k.finite q)))
  where
    either : (s t : Bool) (a b : ℕ) → Unsigned s a → Unsigned t b → Unsigned (unlike s t) (a * b)
    either true t a b u v e = ap (λ (z : ℕ). z * b) (u refl) ∙ zero-mul b
    either false true a b u v e = ap (λ (z : ℕ). a * z) (v refl) ∙ mul-zero a
    either false false a b u v e = absurd (true≢false (sym e))

-- ---- rounded to a whole number

nearest_at_most : (a c n : ℕ) → 0 < c → a ≤ n * c → nearest_whole a c ≤ n * 1
nearest_at_most a c n C h = le_trans (nearest_le a c n C h) (le_of_eq (sym (mul-one n)))

pub round_away_at_most : (n : ℕ) (x : Float) → AtMost n x → n < 2 ^ 53 → AtMost n (round_away x)
unfolding round_away
round_away_at_most n nan h N = absurd h.finite
round_away_at_most n (inf s) h N = absurd h.finite
round_away_at_most n (fin s m e) h N = round_at_most binary64 s (nearest_whole (m * up e) (down e)) 1 n (lit< tt) (nearest_at_most (m * up e) (down e) n (down_pos e) h.size) N

pub round_away_not_below : (n : ℕ) (x : Float) → AtMost n x → n < 2 ^ 53 → lt x Constants.zero ≡ false → lt (round_away x) Constants.zero ≡ false
unfolding round_away
round_away_not_below n nan h N p = absurd h.finite
round_away_not_below n (inf s) h N p = absurd h.finite
round_away_not_below n (fin s m e) h N p = round_not_below binary64 s (nearest_whole (m * up e) (down e)) 1 n (lit< tt) (nearest_at_most (m * up e) (down e) n (down_pos e) h.size) N (λ t. none (unsigned (fin s m e) tt p t))
  where
    none : m * up e ≡ 0 → nearest_whole (m * up e) (down e) ≡ 0
    none z = let h : nearest_whole (m * up e) (down e) ≤ 0 = nearest_le (m * up e) (down e) 0 (down_pos e) (le_of_eq (z ∙ sym (zero-mul (down e)))) in omega arith

-- ---- as a whole number

-- z is the whole number k, which is at most n
up_to : {n k : ℕ} {z : ℤ} → z ≡ pos k → k ≤ n → UpTo n z
up_to e h = rw e (record { is = refl; at_most = h })

pub up_to_more : {n m : ℕ} {z : ℤ} → n ≤ m → UpTo n z → UpTo m z
up_to_more h U = record { is = U.is; at_most = le_trans U.at_most h }

pub cast_up_to : (n : ℕ) (x : Float) → AtMost n x → n < 2 ^ 63 → lt x Constants.zero ≡ false → UpTo n (to_signed 63 x)
unfolding to_signed
cast_up_to n nan h N p = absurd h.finite
cast_up_to n (inf s) h N p = absurd h.finite
cast_up_to n (fin true m e) h N p =
    up_to {k = 0} (ap (λ (q : ℕ). neg_ℤ (pos (min q (2 ^ 63)))) (ap (λ (a : ℕ). a / down e) (unsigned (fin true m e) tt p refl) ∙ div-eq_of_lt (down_pos e))) (omega arith)
cast_up_to n (fin false m e) h N p =
    up_to {k = min (m * up e / down e) (2 ^ 63 - 1)} refl
    (cut (m * up e / down e) ((div-lt_iff_lt-mul (down_pos e)).1 (lt_of_le_of_lt h.size (mul-lt-mul_of_pos_right (next n) (down_pos e)))))
  where
    next : (n : ℕ) → n < n + 1
    next n = omega arith

    cut : (q : ℕ) → q < n + 1 → min q (2 ^ 63 - 1) ≤ n
    cut q h = omega arith

-- the limits of document 01: a rounded product of a setting and an x-height
pub rounded_product_up_to : (a b : ℕ) (x y : Float) → AtMost a x → AtMost b y → a * b < 2 ^ 53 → lt x Constants.zero ≡ false → lt y Constants.zero ≡ false → UpTo (a * b) (rounded_product x y)
rounded_product_up_to a b x y h k N p q =
    let m = mul_at_most binary64 a b x y h k N in
    cast_up_to (a * b) (round_away (mul binary64 x y)) (round_away_at_most (a * b) (mul binary64 x y) m N) (lt_trans N (lit< tt))
    (round_away_not_below (a * b) (mul binary64 x y) m N (mul_not_below binary64 a b x y h k N p q))

-- ---- what tests against a whole number say

or_cases : (a b : ℕ) (w : Bool) → ltb a b || (eqb a b && w) ≡ true → a ≤ b
or_cases a b w h = go (ltb a b) (eqb a b) refl refl h
  where
    go : (p q : Bool) → ltb a b ≡ p → eqb a b ≡ q → p || (q && w) ≡ true → a ≤ b
    go true q e f h = le_of_lt (ltb-true a b e)
    go false true e f h = le_of_eq (eqb-true a b f)
    go false false e f h = absurd (true≢false (sym h))

at_most_whole : (n m : ℕ) (e : ℤ) (y : Float) → HasValue y false n 1 → le (fin false m e) y ≡ true → m * up e ≤ n * down e
unfolding le lt eq
at_most_whole n m e nan v h = absurd v
at_most_whole n m e (inf s) v h = absurd v
at_most_whole n m e (fin true k g) v h = absurd (true≢false v.0)
at_most_whole n m e (fin false k g) v h =
    le_of_mul-le-mul_right
    (le_trans (or_cases (m * up e * down g) (k * up g * down e) true h)
    (le_of_eq (ap (λ (z : ℕ). z * down e) (sym (mul-one (k * up g)) ∙ v.1) ∙ mul_right_comm n (down g) (down e))))
    (down_pos g)

pub size_at_most : (n : ℕ) (x y : Float) → HasValue y false n 1 → finite x ≡ true → le (absolute x) y ≡ true → AtMost n x
size_at_most n nan y v f h = absurd (true≢false (sym f))
size_at_most n (inf s) y v f h = absurd (true≢false (sym f))
size_at_most n (fin s m e) y v f h = record { finite = tt; size = at_most_whole n m e y v h }

-- a set sign that is not below zero stands before 0
zero_size : (m : ℕ) (e : ℤ) → le Constants.zero (fin true m e) ≡ true → m * up e ≡ 0
unfolding le lt eq of_bits
zero_size m e h = sym (mul-one (m * up e)) ∙ sym (eqb-true (0 * down e) (m * up e * 1) (left (eqb (0 * down e) (m * up e * 1)) (eqb (0 * down e) 0) h)) ∙ zero-mul (down e)
  where
    left : (a b : Bool) → a && b ≡ true → a ≡ true
    left true b h = refl
    left false b h = h

pub from_zero : (x : Float) → le Constants.zero x ≡ true → lt x Constants.zero ≡ false
unfolding le lt eq of_bits
from_zero nan h = refl
from_zero (inf true) h = absurd (true≢false (sym h))
from_zero (inf false) h = refl
from_zero (fin false m e) h = value_not_below (fin false m e) false (m * up e) (down e) (down_pos e) (λ s. absurd (true≢false (sym s))) (refl, refl)
from_zero (fin true m e) h = value_not_below (fin true m e) true (m * up e) (down e) (down_pos e) (λ s. zero_size m e h) (refl, refl)

pub between_at_most : (n : ℕ) (x y : Float) → HasValue y false n 1 → le Constants.zero x ≡ true → le x y ≡ true → AtMost n x
unfolding le lt eq of_bits
between_at_most n nan y v h k = absurd (true≢false (sym h))
between_at_most n (inf true) y v h k = absurd (true≢false (sym h))
between_at_most n (inf false) nan v h k = absurd v
between_at_most n (inf false) (inf s) v h k = absurd v
between_at_most n (inf false) (fin s m e) v h k = absurd (true≢false (sym k))
between_at_most n (fin false m e) y v h k = record { finite = tt; size = at_most_whole n m e y v k }
between_at_most n (fin true m e) y v h k = record { finite = tt; size = le_trans (le_of_eq (zero_size m e h)) (omega arith) }

pub above_zero : (x : Float) → finite x ≡ true → lt Constants.zero x ≡ true → T (positive x)
unfolding lt of_bits
above_zero nan f h = absurd (true≢false (sym f))
above_zero (inf s) f h = absurd (true≢false (sym f))
above_zero (fin true m e) f h = absurd (true≢false (sym h))
above_zero (fin false m e) f h = lt→ltb 0 m (first_pos m (up e) (more (ltb-true (0 * down e) (m * up e * 1) h)))
  where
    more : {z : ℕ} → z < m * up e * 1 → 0 < m * up e
    more h = let p : m * up e * 1 ≡ m * up e = mul-one (m * up e) in omega arith
