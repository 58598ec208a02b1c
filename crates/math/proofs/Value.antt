-- A finite float is a sign and a fraction, and an operation on two of them is one rounding of a fraction.
-- `HasValue x s a c` (of the kit) says that x is finite with the sign s and the size a / c.
use mathlib.Core.Path.{◌≡◌, refl, sym, ap, ◌∙◌, subst}
use Prim.Native.Nat.{ℕ, zero, suc, ◌+◌, ◌-◌, ◌*◌, ◌/◌, ◌%◌, ◌^◌, ◌≤◌, ◌<◌}
use native.Mathlib.Nat.{lt_of_lt_of_le, mul_assoc, mul_comm, mul_left_comm, mul_right_comm, mul-mul-mul_comm, mul-pos, mul-one, add-mul, mul-sub, mul-lt-mul_of_pos_right, lt_of_mul-lt-mul_right, zero-mul, le_of_suc-le-suc, lt_of_not-le, lt_irrefl, ne_of_gt}
use native.Mathlib.Omega.{arith}
use mathlib.Core.Bool.{Bool, true, false, not, ◌&&◌, cond, beq}
use lib.IntN.{ℤ, pos, negsuc}
use lib.Dec.{T, ltb, leb, eqb, ltb→lt, lt→ltb, leb→le}
use lib.Pow.{pow-add, pow_pos, pow-lt, shl_lt}
use lib.Ieee.{Float, nan, inf, fin, Format, prec, emax, low, up, down, unlike, size, round, sum, add, sub, mul, div, neg, fits, to_bits, of_bits, top, hid}
use lib.Ieee.Bits.{of_bits-to_bits}
use lib.Ieee.Exact.{HasValue, round_exact}
use lib.Ieee.Fits.{and_l, and_r, up_pos, down_pos, round-fits}
use lib.Ieee.Nearest.{div_same}
use lib.Ieee.Positive.{first_pos}
use lib.Ieee.Scale.{round_same}
use borrow.Author.Tests.{ne_eqb}

-- ---- one value, one float

-- the bit pattern of a finite float, from its sign and its size in units of the smallest value
bits : Format → Bool → ℕ → ℕ
bits f s n = let k = size n - prec f in cond s (top f) 0 + k * hid f + n / 2 ^ k

bits_of : (f : Format) (s t : Bool) (m : ℕ) (e : ℤ) (a c : ℕ) → 0 < c → HasValue (fin t m e) s a c → to_bits f (fin t m e) ≡ bits f s (a * 2 ^ low f / c)
unfolding to_bits bits
bits_of f s t m e a c C h =
    let l = 2 ^ low f in
    let q : m * up e * l / down e ≡ a * l / c = div_same (m * up e * l) (down e) (a * l) c (down_pos e) C (mul_right_comm (m * up e) l c ∙ ap (λ (z : ℕ). z * l) h.1 ∙ mul_right_comm a (down e) l) in
    ap (λ (z : Bool). bits f z (m * up e * l / down e)) h.0 ∙ ap (λ (n : ℕ). bits f s n) q

value_bits : (f : Format) (x : Float) (s : Bool) (a c : ℕ) → 0 < c → HasValue x s a c → to_bits f x ≡ bits f s (a * 2 ^ low f / c)
value_bits f nan s a c C h = absurd h
value_bits f (inf t) s a c C h = absurd h
value_bits f (fin t m e) s a c C h = bits_of f s t m e a c C h

-- two floats of one format with the same sign and size are the same
pub same_value : (f : Format) (x y : Float) (s : Bool) (a c : ℕ) → 0 < c → T (fits f x) → T (fits f y) → HasValue x s a c → HasValue y s a c → x ≡ y
same_value f x y s a c C p q h k =
    sym (of_bits-to_bits f x p) ∙ ap (λ (b : ℕ). of_bits f b) (value_bits f x s a c C h ∙ sym (value_bits f y s a c C k)) ∙ of_bits-to_bits f y q

-- ---- what the format holds rounds to itself

-- the format holds a / c: it is q * 2 ^ j of the smallest values, with q of no more digits than the format keeps, and below the overflow
pub record Holds (f : Format) (a c : ℕ) : Type 0 where
  pub digits : ℕ
  pub shift : ℕ
  pub few : digits < 2 ^ prec f
  pub under : digits * 2 ^ shift < 2 ^ (low f + suc (emax f))
  pub is : a * 2 ^ low f ≡ digits * 2 ^ shift * c

pub holds_value : (f : Format) (s : Bool) (a c : ℕ) → 0 < c → Holds f a c → HasValue (round f s a c) s a c
holds_value f s a c C h = round_exact f s a c h.digits h.shift C h.few h.under h.is

exponent_le : (a b : ℕ) → 2 ^ a ≤ 2 ^ b → a ≤ b
exponent_le a b h = le_of_suc-le-suc (lt_of_not-le (λ (g : suc b ≤ a). lt_irrefl (2 ^ b) (lt_of_lt_of_le (pow-lt g) h)))

rejoin : (a l : ℕ) → a ≤ l → l - a + a ≡ l
rejoin a l h = omega arith

regroup : (e a l : ℕ) → a ≤ l → e + a + (l - a) ≡ l + e
regroup e a l h = omega arith

holds_up : (f : Format) (m k : ℕ) → m < 2 ^ prec f → m * 2 ^ k < 2 ^ suc (emax f) * 1 → Holds f (m * 2 ^ k) 1
holds_up f m k few under =
    let l = low f in
    record {
      digits = m;
      shift = k + l;
      few = few;
      under =
          subst (λ (z : ℕ). z < 2 ^ (l + suc (emax f))) (mul_assoc m (2 ^ k) (2 ^ l) ∙ ap (λ (z : ℕ). m * z) (sym (pow-add 2 k l)))
          (subst (λ (z : ℕ). m * 2 ^ k * 2 ^ l < z) (mul_comm (2 ^ suc (emax f)) (2 ^ l) ∙ sym (pow-add 2 l (suc (emax f))))
          (mul-lt-mul_of_pos_right (subst (λ (z : ℕ). m * 2 ^ k < z) (mul-one (2 ^ suc (emax f))) under) (pow_pos l)));
      is = mul_assoc m (2 ^ k) (2 ^ l) ∙ ap (λ (z : ℕ). m * z) (sym (pow-add 2 k l)) ∙ sym (mul-one (m * 2 ^ (k + l)));
    }

holds_down : (f : Format) (m k : ℕ) → m < 2 ^ prec f → 2 ^ suc k ≤ 2 ^ low f → m * 1 < 2 ^ suc (emax f) * 2 ^ suc k → Holds f (m * 1) (2 ^ suc k)
holds_down f m k few fine under =
    let l = low f in
    let d : suc k ≤ l = exponent_le (suc k) l fine in
    let small : m < 2 ^ (suc (emax f) + suc k) = subst (λ (z : ℕ). m < z) (sym (pow-add 2 (suc (emax f)) (suc k))) (subst (λ (z : ℕ). z < 2 ^ suc (emax f) * 2 ^ suc k) (mul-one m) under) in
    record {
      digits = m;
      shift = l - suc k;
      few = few;
      under = subst (λ (z : ℕ). m * 2 ^ (l - suc k) < 2 ^ z) (regroup (suc (emax f)) (suc k) l d) (shl_lt (suc (emax f) + suc k) (l - suc k) small);
      is =
          ap (λ (z : ℕ). z * 2 ^ l) (mul-one m)
          ∙ ap (λ (z : ℕ). m * z) (ap (λ (z : ℕ). 2 ^ z) (sym (rejoin (suc k) l d)) ∙ pow-add 2 (l - suc k) (suc k))
          ∙ sym (mul_assoc m (2 ^ (l - suc k)) (2 ^ suc k));
    }

holds_zero : (f : Format) (a c : ℕ) → a ≡ 0 → Holds f a c
holds_zero f a c z =
    record {
      digits = 0;
      shift = 0;
      few = pow_pos (prec f);
      under = pow_pos (low f + suc (emax f));
      is = ap (λ (x : ℕ). x * 2 ^ low f) z ∙ zero-mul (2 ^ low f) ∙ sym (zero-mul c);
    }

-- what `fits` asks of a number that is not 0: few digits, no bit below the smallest value, no overflow
pub fits_says : (f : Format) (s : Bool) (m : ℕ) (e : ℤ) → T (fits f (fin s (suc m) e)) → (suc m < 2 ^ prec f) × (down e ≤ 2 ^ low f) × (suc m * up e < 2 ^ suc (emax f) * down e)
unfolding fits
fits_says f s m e t =
    let odd = eqb (suc m % 2) 1 in
    let few = ltb (suc m) (2 ^ prec f) in
    let fine = leb (down e) (2 ^ low f) in
    let under = ltb (suc m * up e) (2 ^ suc (emax f) * down e) in
    let u = and_l (odd && few && fine) under t in (
      ltb→lt (suc m) (2 ^ prec f) (and_r odd few (and_l (odd && few) fine u)),
      leb→le (down e) (2 ^ low f) (and_r (odd && few) fine u),
      ltb→lt (suc m * up e) (2 ^ suc (emax f) * down e) (and_r (odd && few && fine) under t),
    )

pub fits_few : (f : Format) (s : Bool) (m : ℕ) (e : ℤ) → T (fits f (fin s m e)) → m < 2 ^ prec f
fits_few f s zero e t = pow_pos (prec f)
fits_few f s (suc m) e t = (fits_says f s m e t).0

pub fits_holds : (f : Format) (s : Bool) (m : ℕ) (e : ℤ) → T (fits f (fin s m e)) → Holds f (m * up e) (down e)
fits_holds f s zero e t = holds_zero f (0 * up e) (down e) (zero-mul (up e))
fits_holds f s (suc m) (pos k) t = let h = fits_says f s m (pos k) t in holds_up f (suc m) k h.0 h.2
fits_holds f s (suc m) (negsuc k) t = let h = fits_says f s m (negsuc k) t in holds_down f (suc m) k h.0 h.1 h.2

-- a float that the format holds, from any fraction that it equals
pub round_self : (f : Format) (x : Float) (s : Bool) (a c : ℕ) → 0 < c → T (fits f x) → HasValue x s a c → round f s a c ≡ x
round_self f nan s a c C p h = absurd h
round_self f (inf t) s a c C p h = absurd h
round_self f (fin t m e) s a c C p h =
    round_same f s a c (m * up e) (down e) C (down_pos e) (sym h.1)
    ∙ same_value f (round f s (m * up e) (down e)) (fin t m e) s (m * up e) (down e) (down_pos e) (round-fits f s (m * up e) (down e)) p
    (holds_value f s (m * up e) (down e) (down_pos e) (fits_holds f t m e p)) (h.0, refl)

-- ---- an operation on two fractions is one rounding

pub mul_value : (f : Format) (x y : Float) (s t : Bool) (a c b d : ℕ) → 0 < c → 0 < d → HasValue x s a c → HasValue y t b d → mul f x y ≡ round f (unlike s t) (a * b) (c * d)
unfolding mul
mul_value f nan y s t a c b d C D h k = absurd h
mul_value f (inf u) y s t a c b d C D h k = absurd h
mul_value f (fin u m e) nan s t a c b d C D h k = absurd k
mul_value f (fin u m e) (inf v) s t a c b d C D h k = absurd k
mul_value f (fin u m e) (fin v n g) s t a c b d C D h k =
    ap (λ (z : Bool). round f (unlike z v) (m * up e * (n * up g)) (down e * down g)) h.0
    ∙ ap (λ (z : Bool). round f (unlike s z) (m * up e * (n * up g)) (down e * down g)) k.0
    ∙ round_same f (unlike s t) (m * up e * (n * up g)) (down e * down g) (a * b) (c * d) (mul-pos (down_pos e) (down_pos g)) (mul-pos C D)
    (mul-mul-mul_comm (m * up e) (n * up g) c d ∙ ap (λ (z : ℕ). z * (n * up g * d)) h.1 ∙ ap (λ (z : ℕ). a * down e * z) k.1 ∙ mul-mul-mul_comm a (down e) b (down g))

-- a factor that is not 0
significand_pos : (n : ℕ) (g : ℤ) (b d : ℕ) → 0 < b → n * up g * d ≡ b * down g → 0 < n
significand_pos n g b d B k = first_pos n (up g) (first_pos (n * up g) d (subst (λ (z : ℕ). 0 < z) (sym k) (mul-pos B (down_pos g))))

pub div_value : (f : Format) (x y : Float) (s t : Bool) (a c b d : ℕ) → 0 < c → 0 < b → HasValue x s a c → HasValue y t b d → div f x y ≡ round f (unlike s t) (a * d) (c * b)
unfolding div
div_value f nan y s t a c b d C B h k = absurd h
div_value f (inf u) y s t a c b d C B h k = absurd h
div_value f (fin u m e) nan s t a c b d C B h k = absurd k
div_value f (fin u m e) (inf v) s t a c b d C B h k = absurd k
div_value f (fin u m e) (fin v n g) s t a c b d C B h k =
    let N : 0 < n = significand_pos n g b d B k.1 in
    let r : Bool → Bool → Float = λ y z. round f (unlike y z) (m * up e * down g) (n * up g * down e) in
    let w = cond (eqb m 0) nan (inf (unlike u v)) in
    ap (λ (z : Bool). cond z w (r u v)) (ne_eqb n 0 (ne_of_gt N))
    ∙ ap (λ (z : Bool). r z v) h.0
    ∙ ap (λ (z : Bool). r s z) k.0
    ∙ round_same f (unlike s t) (m * up e * down g) (n * up g * down e) (a * d) (c * b) (mul-pos (mul-pos N (up_pos g)) (down_pos e)) (mul-pos C B)
    (mul-mul-mul_comm (m * up e) (down g) c b
    ∙ ap (λ (z : ℕ). z * (down g * b)) h.1
    ∙ ap (λ (z : ℕ). a * down e * z) (mul_comm (down g) b ∙ sym k.1)
    ∙ simp (mul_assoc, mul_comm, mul_left_comm))

pub neg_value : (x : Float) (s : Bool) (a c : ℕ) → HasValue x s a c → HasValue (neg x) (not s) a c
unfolding neg
neg_value nan s a c h = absurd h
neg_value (inf u) s a c h = absurd h
neg_value (fin u m e) s a c h = (ap not h.0, h.1)

same_test : (x y : Bool) → (T x → T y) → (T y → T x) → x ≡ y
same_test true true p q = refl
same_test true false p q = absurd (p tt)
same_test false true p q = absurd (q tt)
same_test false false p q = refl

scaled_test : (a b k : ℕ) → 0 < k → ltb (a * k) (b * k) ≡ ltb a b
scaled_test a b k K = same_test (ltb (a * k) (b * k)) (ltb a b) (λ t. lt→ltb a b (lt_of_mul-lt-mul_right k (ltb→lt (a * k) (b * k) t))) (λ t. lt→ltb (a * k) (b * k) (mul-lt-mul_of_pos_right (ltb→lt a b t) K))

round_scale : (f : Format) (s : Bool) (n m a c k : ℕ) → 0 < c → 0 < k → n ≡ a * k → m ≡ c * k → round f s n m ≡ round f s a c
round_scale f s n m a c k C K p q =
    ap (λ (z : ℕ). round f s z m) p
    ∙ ap (λ (z : ℕ). round f s (a * k) z) q
    ∙ round_same f s (a * k) (c * k) a c (mul-pos C K) C (simp (mul_assoc, mul_comm, mul_left_comm))

sub_mul : (a b k : ℕ) → a * k - b * k ≡ (a - b) * k
sub_mul a b k = ap (λ (z : ℕ). z - b * k) (mul_comm a k) ∙ ap (λ (z : ℕ). k * a - z) (mul_comm b k) ∙ sym (mul-sub k a b) ∙ mul_comm k (a - b)

-- a signed sum of two fractions, with both brought to k times the denominator
sum_scale : (f : Format) (s t : Bool) (a b c k : ℕ) → 0 < c → 0 < k → sum f s (a * k) t (b * k) (c * k) ≡ sum f s a t b c
unfolding sum
sum_scale f s t a b c k C K =
    let like : Float → Float → Float = λ z y. cond (beq s t) z y in
    ap (λ (z : Float). like z (cond (ltb (a * k) (b * k)) (round f t (b * k - a * k) (c * k)) (round f (s && ltb (b * k) (a * k)) (a * k - b * k) (c * k))))
    (round_scale f s (a * k + b * k) (c * k) (a + b) c k C K (sym (add-mul a b k)) refl)
    ∙ ap (λ (z : Bool). like (round f s (a + b) c) (cond z (round f t (b * k - a * k) (c * k)) (round f (s && ltb (b * k) (a * k)) (a * k - b * k) (c * k)))) (scaled_test a b k K)
    ∙ ap (λ (z : Bool). like (round f s (a + b) c) (cond (ltb a b) (round f t (b * k - a * k) (c * k)) (round f (s && z) (a * k - b * k) (c * k)))) (scaled_test b a k K)
    ∙ ap (λ (z : Float). like (round f s (a + b) c) (cond (ltb a b) z (round f (s && ltb b a) (a * k - b * k) (c * k)))) (round_scale f t (b * k - a * k) (c * k) (b - a) c k C K (sub_mul b a k) refl)
    ∙ ap (λ (z : Float). like (round f s (a + b) c) (cond (ltb a b) (round f t (b - a) c) z)) (round_scale f (s && ltb b a) (a * k - b * k) (c * k) (a - b) c k C K (sub_mul a b k) refl)

-- sums of equal fractions are the same
sum_same : (f : Format) (s t : Bool) (a b c a' b' c' : ℕ) → 0 < c → 0 < c' → a * c' ≡ a' * c → b * c' ≡ b' * c → sum f s a t b c ≡ sum f s a' t b' c'
sum_same f s t a b c a' b' c' C C' p q =
    sym (sum_scale f s t a b c c' C C')
    ∙ ap (λ (z : ℕ). sum f s z t (b * c') (c * c')) p
    ∙ ap (λ (z : ℕ). sum f s (a' * c) t z (c * c')) q
    ∙ ap (λ (z : ℕ). sum f s (a' * c) t (b' * c) z) (mul_comm c c')
    ∙ sum_scale f s t a' b' c' c C' C

pub add_value : (f : Format) (x y : Float) (s t : Bool) (a c b d : ℕ) → 0 < c → 0 < d → HasValue x s a c → HasValue y t b d → add f x y ≡ sum f s (a * d) t (b * c) (c * d)
unfolding add
add_value f nan y s t a c b d C D h k = absurd h
add_value f (inf u) y s t a c b d C D h k = absurd h
add_value f (fin u m e) nan s t a c b d C D h k = absurd k
add_value f (fin u m e) (inf v) s t a c b d C D h k = absurd k
add_value f (fin u m e) (fin v n g) s t a c b d C D h k =
    ap (λ (z : Bool). sum f z (m * up e * down g) v (n * up g * down e) (down e * down g)) h.0
    ∙ ap (λ (z : Bool). sum f s (m * up e * down g) z (n * up g * down e) (down e * down g)) k.0
    ∙ sum_same f s t (m * up e * down g) (n * up g * down e) (down e * down g) (a * d) (b * c) (c * d) (mul-pos (down_pos e) (down_pos g)) (mul-pos C D)
    (mul-mul-mul_comm (m * up e) (down g) c d ∙ ap (λ (z : ℕ). z * (down g * d)) h.1 ∙ simp (mul_assoc, mul_comm, mul_left_comm))
    (mul-mul-mul_comm (n * up g) (down e) c d
    ∙ ap (λ (z : ℕ). n * up g * c * z) (mul_comm (down e) d)
    ∙ mul-mul-mul_comm (n * up g) c d (down e)
    ∙ ap (λ (z : ℕ). z * (c * down e)) k.1
    ∙ simp (mul_assoc, mul_comm, mul_left_comm))

pub sub_value : (f : Format) (x y : Float) (s t : Bool) (a c b d : ℕ) → 0 < c → 0 < d → HasValue x s a c → HasValue y t b d → sub f x y ≡ sum f s (a * d) (not t) (b * c) (c * d)
unfolding sub
sub_value f x y s t a c b d C D h k = add_value f x (neg y) s (not t) a c b d C D h (neg_value y t b d k)
