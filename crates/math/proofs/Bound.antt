-- Bounds of float steps from bounds of their operands, of either sign: what stays below 2 ^ prec stays finite, and rounding doesn't pass a whole bound.
use mathlib.Core.Path.{◌≡◌, refl, sym, ap, ◌∙◌, subst}
use Prim.Native.Nat.{ℕ, suc, ◌+◌, ◌-◌, ◌*◌, ◌^◌, ◌≤◌, ◌<◌}
use native.Mathlib.Nat.{sub-le, add-mul, mul_assoc, mul_comm, mul_right_comm, mul-mul-mul_comm, mul-pos, mul-le-mul, mul-le-mul_right, mul-lt-mul_of_pos_right, le_trans, le_of_eq, le-add_left, le-add_right, lt_of_lt_of_le, lt_of_le_of_lt, le_of_mul-le-mul_right, add-sub_cancel_left, add-le-add}
use native.Mathlib.Omega.{arith}
use mathlib.Core.Bool.{Bool, true, false, ◌&&◌, cond, beq}
use lib.Dec.{T, ltb}
use lib.Pow.{pow-add, pow_pos, pow_mono}
use lib.Ieee.{Float, nan, inf, fin, Format, prec, emax, low, down, unlike, round, sum, add, sub, mul, div, neg, lt, is_nan}
use lib.Ieee.Exact.{HasValue}
use lib.Ieee.Fits.{reach}
use lib.Ieee.Nearest.{closest}
use lib.Ieee.Order.{drop}
use lib.Ieee.Positive.{num, den, den_pos, first_pos}
use lib.Ieee.Scale.{grid, overflow, finite}
use Rattle.math.specs.Select.{negative, absolute, clamp_to, minimum_number, maximum_number}
use Rattle.math.proofs.Value.{mul_value, div_value, add_value}
use Rattle.math.proofs.Ulp.{Half, closest_half, round_value, unit_le}

-- x is finite, and its size is at most the whole number n
pub record AtMost (n : ℕ) (x : Float) : Type 0 where
  pub finite : T (finite x)
  pub size : num x ≤ n * den x

-- x is finite, and its size is at least 1 / n
pub record AtLeast (n : ℕ) (x : Float) : Type 0 where
  pub finite : T (finite x)
  pub size : den x ≤ n * num x

pub own_value : (x : Float) → T (finite x) → HasValue x (negative x) (num x) (den x)
own_value nan t = absurd t
own_value (inf s) t = absurd t
own_value (fin s m e) t = (refl, refl)

pub value_at_most : (n : ℕ) (x : Float) (s : Bool) (a c : ℕ) → 0 < c → a ≤ n * c → HasValue x s a c → AtMost n x
value_at_most n nan s a c C h v = absurd v
value_at_most n (inf t) s a c C h v = absurd v
value_at_most n (fin t m e) s a c C h v = record {
  finite = tt;
  size = le_of_mul-le-mul_right (le_trans (le_of_eq v.1) (le_trans (mul-le-mul_right (down e) h) (le_of_eq (mul_right_comm n c (down e))))) C;
}

pub weaken : (a b : ℕ) (x : Float) → a ≤ b → AtMost a x → AtMost b x
weaken a b x h m = record { finite = m.finite; size = le_trans m.size (mul-le-mul_right (den x) h) }

-- whichever of two is picked
pub pick : {n : ℕ} (b : Bool) {x y : Float} → AtMost n x → AtMost n y → AtMost n (cond b x y)
pick true h k = h
pick false h k = k

-- ---- rounding doesn't pass a whole bound

halve : (x q u : ℕ) → 0 < u → 2 * (x * u) ≤ 2 * (q * u) + u → x ≤ q
halve x q u U h = below x q (le_of_mul-le-mul_right (le_trans (le_of_eq (mul_assoc 2 x u)) (le_trans h (le_of_eq (sym (add-mul (2 * q) 1 u ∙ together q u))))) U)
  where
    below : (x q : ℕ) → 2 * x ≤ 2 * q + 1 → x ≤ q
    below x q h = omega arith

    together : (q u : ℕ) → 2 * q * u + 1 * u ≡ 2 * (q * u) + u
    together q u = let e : 2 * q * u ≡ 2 * (q * u) = mul_assoc 2 q u in omega arith

cut : (k l : ℕ) → k ≤ l → l - k + k ≡ l
cut k l h = omega arith

pub grid_at_most : (f : Format) (a c n : ℕ) → 0 < c → a ≤ n * c → n < 2 ^ prec f → grid f a c ≤ n * 2 ^ low f
grid_at_most f a c n C h N =
    let l = low f in
    let k = drop (prec f) (a * 2 ^ l) c in
    let u = c * 2 ^ k in
    let q = n * 2 ^ (l - k) in
    let K : k ≤ l = le_trans (unit_le f a c (prec f) C (lt_of_le_of_lt h (mul-lt-mul_of_pos_right N C))) (le_of_eq (add-sub_cancel_left (prec f) l)) in
    let whole : q * 2 ^ k ≡ n * 2 ^ l = mul_assoc n (2 ^ (l - k)) (2 ^ k) ∙ ap (λ (z : ℕ). n * z) (sym (pow-add 2 (l - k) k) ∙ ap (λ (z : ℕ). 2 ^ z) (cut k l K)) in
    let over : a * 2 ^ l ≤ q * u = le_trans (mul-le-mul_right (2 ^ l) h) (le_of_eq (mul_right_comm n c (2 ^ l) ∙ ap (λ (z : ℕ). z * c) (sym whole) ∙ mul_assoc q (2 ^ k) c ∙ ap (λ (z : ℕ). q * z) (mul_comm (2 ^ k) c))) in
    le_trans (mul-le-mul_right (2 ^ k) (halve (closest (a * 2 ^ l) u) q u (mul-pos C (pow_pos k)) (raise (closest_half (a * 2 ^ l) u (mul-pos C (pow_pos k))) over))) (le_of_eq whole)
  where
    raise : {p a h b : ℕ} → Half p a h → a ≤ b → 2 * p ≤ 2 * b + h
    raise m g = let x = m.not_above in omega arith

pub grid_under : (f : Format) (a c n : ℕ) → 0 < c → a ≤ n * c → n < 2 ^ prec f → grid f a c < overflow f
grid_under f a c n C h N =
    lt_of_le_of_lt (grid_at_most f a c n C h N)
    (lt_of_lt_of_le (mul-lt-mul_of_pos_right N (pow_pos (low f)))
    (le_trans (mul-le-mul_right (2 ^ low f) (pow_mono (reach f))) (le_of_eq (mul_comm (2 ^ suc (emax f)) (2 ^ low f) ∙ sym (pow-add 2 (low f) (suc (emax f)))))))

pub round_at_most : (f : Format) (s : Bool) (a c n : ℕ) → 0 < c → a ≤ n * c → n < 2 ^ prec f → AtMost n (round f s a c)
round_at_most f s a c n C h N =
    value_at_most n (round f s a c) s (grid f a c) (2 ^ low f) (pow_pos (low f)) (grid_at_most f a c n C h N) (round_value f s a c (grid_under f a c n C h N))

sum_at_most : (f : Format) (s t : Bool) (a b c n : ℕ) → 0 < c → a + b ≤ n * c → n < 2 ^ prec f → AtMost n (sum f s a t b c)
unfolding sum
sum_at_most f s t a b c n C h N =
    pick (beq s t) (round_at_most f s (a + b) c n C h N)
    (pick (ltb a b) (round_at_most f t (b - a) c n C (le_trans (sub-le b a) (le_trans (le-add_left b a) h)) N)
    (round_at_most f (s && ltb b a) (a - b) c n C (le_trans (sub-le a b) (le_trans (le-add_right a b) h)) N))

-- ---- the operations

pub mul_at_most : (f : Format) (a b : ℕ) (x y : Float) → AtMost a x → AtMost b y → a * b < 2 ^ prec f → AtMost (a * b) (mul f x y)
mul_at_most f a b x y h k N =
    subst (AtMost (a * b)) (sym (mul_value f x y (negative x) (negative y) (num x) (den x) (num y) (den y) (den_pos x) (den_pos y) (own_value x h.finite) (own_value y k.finite)))
    (round_at_most f (unlike (negative x) (negative y)) (num x * num y) (den x * den y) (a * b) (mul-pos (den_pos x) (den_pos y))
    (le_trans (mul-le-mul h.size k.size) (le_of_eq (mul-mul-mul_comm a (den x) b (den y)))) N)

pub div_at_most : (f : Format) (a b : ℕ) (x y : Float) → AtMost a x → AtLeast b y → a * b < 2 ^ prec f → AtMost (a * b) (div f x y)
div_at_most f a b x y h k N =
    let P : 0 < num y = first_pos (num y) b (lt_of_lt_of_le (den_pos y) (le_trans k.size (le_of_eq (mul_comm b (num y))))) in
    subst (AtMost (a * b)) (sym (div_value f x y (negative x) (negative y) (num x) (den x) (num y) (den y) (den_pos x) P (own_value x h.finite) (own_value y k.finite)))
    (round_at_most f (unlike (negative x) (negative y)) (num x * den y) (den x * num y) (a * b) (mul-pos (den_pos x) P)
    (le_trans (mul-le-mul h.size k.size) (le_of_eq (mul-mul-mul_comm a (den x) b (num y)))) N)

both : (a b p q x y : ℕ) → p ≤ a * x → q ≤ b * y → p * y + q * x ≤ (a + b) * (x * y)
both a b p q x y h k =
    le_trans (add-le-add (mul-le-mul_right y h) (mul-le-mul_right x k))
    (le_of_eq (sym (add-mul a b (x * y) ∙ ap (λ (z : ℕ). z + b * (x * y)) (sym (mul_assoc a x y)) ∙ ap (λ (z : ℕ). a * x * y + z) (ap (λ (z : ℕ). b * z) (mul_comm x y) ∙ sym (mul_assoc b y x)))))

pub add_at_most : (f : Format) (a b : ℕ) (x y : Float) → AtMost a x → AtMost b y → a + b < 2 ^ prec f → AtMost (a + b) (add f x y)
add_at_most f a b x y h k N =
    subst (AtMost (a + b)) (sym (add_value f x y (negative x) (negative y) (num x) (den x) (num y) (den y) (den_pos x) (den_pos y) (own_value x h.finite) (own_value y k.finite)))
    (sum_at_most f (negative x) (negative y) (num x * den y) (num y * den x) (den x * den y) (a + b) (mul-pos (den_pos x) (den_pos y)) (both a b (num x) (num y) (den x) (den y) h.size k.size) N)

pub neg_at_most : (a : ℕ) (x : Float) → AtMost a x → AtMost a (neg x)
unfolding neg
neg_at_most a nan h = absurd h.finite
neg_at_most a (inf s) h = absurd h.finite
neg_at_most a (fin s m e) h = record { finite = tt; size = h.size }

pub sub_at_most : (f : Format) (a b : ℕ) (x y : Float) → AtMost a x → AtMost b y → a + b < 2 ^ prec f → AtMost (a + b) (sub f x y)
unfolding sub
sub_at_most f a b x y h k N = add_at_most f a b x (neg y) h (neg_at_most b y k) N

-- ---- what picks one of its operands

pub clamp_at_most : {a : ℕ} {limit x : Float} → AtMost a limit → AtMost a x → AtMost a (clamp_to limit x)
clamp_at_most {a} {limit} {x} h k = pick (lt x (neg limit)) (neg_at_most a limit h) (pick (lt limit x) h k)

pub min_at_most : {a : ℕ} {x y : Float} → AtMost a x → AtMost a y → AtMost a (minimum_number x y)
min_at_most {a} {x} {y} h k = pick (is_nan x) k (pick (is_nan y) h (pick (lt x y) h (pick (lt y x) k (pick (negative x) h k))))

pub max_at_most : {a : ℕ} {x y : Float} → AtMost a x → AtMost a y → AtMost a (maximum_number x y)
max_at_most {a} {x} {y} h k = pick (is_nan x) k (pick (is_nan y) h (pick (lt x y) k (pick (lt y x) h (pick (negative x) k h))))

pub abs_at_most : {a : ℕ} (x : Float) → AtMost a x → AtMost a (absolute x)
abs_at_most nan h = h
abs_at_most (inf s) h = absurd h.finite
abs_at_most (fin s m e) h = record { finite = tt; size = h.size }
