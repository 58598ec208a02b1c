-- What the tests of the functions over `math` say of a float: of its sign, of whether it is finite, and of its place beside a constant.
use mathlib.Core.Path.{◌≡◌, refl, sym, ap, ◌∙◌, subst}
use Prim.Native.Nat.{ℕ, zero, suc, ◌+◌, ◌-◌, ◌*◌, ◌/◌, ◌%◌, ◌≤◌, ◌<◌}
use native.Mathlib.Nat.{le_refl, zero-mul, mul-pos, sub_self}
use native.Mathlib.Omega.{arith}
use mathlib.Core.Bool.{Bool, true, false, not, ◌&&◌, ◌||◌, cond, true≢false, beq}
use lib.IntN.{ℤ}
use lib.Dec.{T, ltb, leb, eqb}
use lib.Pow.{pow_pos}
use lib.Ieee.{Float, nan, inf, fin, Format, binary64, prec, low, up, down, odd, round, sum, sub, neg, lt, eq, ne, is_nan, fits, top, hid, ones, of_fields, of_bits, to_bits}
use lib.Ieee.Bits.{of_bits-to_bits, of_bits-fits}
use lib.Ieee.Fits.{down_pos}
use lib.Ieee.Scale.{finite, round_same}
use borrow.Author.Tests.{ltb-true, ltb-false, eqb-true, le-ltb, eq-eqb}
use Rattle.math.specs.Constants as Constants
use Rattle.math.specs.Select.{absolute, negative}
use Rattle.math.proofs.Value.{same_value, sub_value}

pub of_true : {b : Bool} → b ≡ true → T b
of_true h = subst T (sym h) tt

both : (a b : Bool) → a ≡ true → b ≡ true → a && b ≡ true
both a b p q = ap (λ (z : Bool). z && b) p ∙ q

pub equal_itself : (s : Bool) (a : ℕ) → eqb a a && (beq s s || eqb a 0) ≡ true
equal_itself true a = both (eqb a a) true (eq-eqb a a refl) refl
equal_itself false a = both (eqb a a) true (eq-eqb a a refl) refl

-- x != x tells a NaN
pub nan_test : (x : Float) → ne x x ≡ is_nan x
unfolding ne is_nan
nan_test nan = refl
nan_test (inf true) = refl
nan_test (inf false) = refl
nan_test (fin s m e) = ap not (equal_itself s (m * up e * down e))

-- ---- the sign bit

odd_sign : (d : ℕ) (s : Bool) (q k l : ℕ) → negative (odd d s q k l) ≡ s
unfolding odd
odd_sign d s zero k l = refl
odd_sign d s (suc q) k l = refl

fields_sign : (f : Format) (s : Bool) (x t : ℕ) → is_nan (of_fields f s x t) ≡ false → negative (of_fields f s x t) ≡ s
unfolding of_fields is_nan
fields_sign f s zero t h = odd_sign (prec f) s t 0 (low f)
fields_sign f s (suc x) t h = go (eqb (suc x) (ones f)) (eqb t 0) h
  where
    go : (a b : Bool) → is_nan (cond a (cond b (inf s) nan) (odd (prec f) s (hid f + t) x (low f))) ≡ false → negative (cond a (cond b (inf s) nan) (odd (prec f) s (hid f + t) x (low f))) ≡ s
    go true true h = refl
    go true false h = absurd (true≢false h)
    go false b h = odd_sign (prec f) s (hid f + t) x (low f)

pub sign_bit : (f : Format) (x : Float) → T (fits f x) → is_nan x ≡ false → leb (top f) (to_bits f x) ≡ negative x
unfolding of_bits
sign_bit f x p h =
    let b = to_bits f x in
    let back : of_fields f (leb (top f) b) (b % top f / hid f) (b % hid f) ≡ x = of_bits-to_bits f x p in
    sym (fields_sign f (leb (top f) b) (b % top f / hid f) (b % hid f) (ap is_nan back ∙ h)) ∙ ap negative back

-- ---- the size

fits_sign : (f : Format) (s t : Bool) (m : ℕ) (e : ℤ) → T (fits f (fin s m e)) → T (fits f (fin t m e))
unfolding fits
fits_sign f s t zero e p = p
fits_sign f s t (suc m) e p = p

pub no_less : (a b : ℕ) → b ≡ 0 → a < b → ⊥
no_less a b e h = omega arith

pub abs_below : (x : Float) → lt x Constants.zero ≡ true → neg x ≡ absolute x
unfolding lt neg of_bits
abs_below nan h = absurd (true≢false (sym h))
abs_below (inf true) h = refl
abs_below (inf false) h = absurd (true≢false (sym h))
abs_below (fin true m e) h = refl
abs_below (fin false m e) h = absurd (no_less (m * up e * 1) (0 * down e) (zero-mul (down e)) (ltb-true (m * up e * 1) (0 * down e) h))

and_left : (a b : Bool) → a && b ≡ true → a ≡ true
and_left true b h = refl
and_left false b h = h

pub abs_zero : (x : Float) → T (fits binary64 x) → eq x Constants.zero ≡ true → Constants.zero ≡ absolute x
unfolding eq of_bits
abs_zero nan p h = absurd (true≢false (sym h))
abs_zero (inf s) p h = absurd (true≢false (sym h))
abs_zero (fin s m e) p h =
    let z : m * up e * 1 ≡ 0 * down e = eqb-true (m * up e * 1) (0 * down e) (and_left (eqb (m * up e * 1) (0 * down e)) (beq s false || eqb (m * up e * 1) 0) h) in
    same_value binary64 (of_bits binary64 0) (fin false m e) false 0 1 (pow_pos 0) (of_bits-fits binary64 0) (fits_sign binary64 s false m e p) (refl, refl) (refl, z)

no_sum : (a b : ℕ) → a + b ≤ 0 → a ≡ 0
no_sum a b h = omega arith

pub abs_above : (x : Float) → lt x Constants.zero ≡ false → eq x Constants.zero ≡ false → x ≡ absolute x
unfolding lt eq of_bits
abs_above nan h k = refl
abs_above (inf true) h k = absurd (true≢false h)
abs_above (inf false) h k = refl
abs_above (fin false m e) h k = refl
abs_above (fin true m e) h k =
    let z : m * up e * 1 ≡ 0 = no_sum (m * up e * 1) (0 * down e) (ltb-false 0 (m * up e * 1 + 0 * down e) h) in
    absurd (true≢false (sym (both (eqb (m * up e * 1) (0 * down e)) (eqb (m * up e * 1) 0) (eq-eqb (m * up e * 1) (0 * down e) (z ∙ sym (zero-mul (down e)))) (eq-eqb (m * up e * 1) 0 z)) ∙ k))

-- ---- x - x is 0 exactly where x is finite

unlike_itself : (s : Bool) → beq s (not s) ≡ false
unlike_itself true = refl
unlike_itself false = refl

nothing : (f : Format) (s : Bool) (a c : ℕ) → sum f s a (not s) a c ≡ round f false 0 c
unfolding sum
nothing f s a c =
    let r = round f (s && ltb a a) (a - a) c in
    ap (λ (b : Bool). cond b (round f s (a + a) c) (cond (ltb a a) (round f (not s) (a - a) c) r)) (unlike_itself s)
    ∙ ap (λ (b : Bool). cond b (round f (not s) (a - a) c) (round f (s && b) (a - a) c)) (le-ltb a a (le_refl a))
    ∙ ap (λ (b : Bool). round f b (a - a) c) (and_false s)
    ∙ ap (λ (n : ℕ). round f false n c) (sub_self a)
  where
    and_false : (s : Bool) → s && false ≡ false
    and_false true = refl
    and_false false = refl

pub finite_test : (x : Float) → eq (sub binary64 x x) Constants.zero ≡ finite x
unfolding eq sub of_bits
finite_test nan = refl
finite_test (inf true) = refl
finite_test (inf false) = refl
finite_test (fin s m e) =
    let c = down e * down e in
    let C = mul-pos (down_pos e) (down_pos e) in
    let gone : sub binary64 (fin s m e) (fin s m e) ≡ Constants.zero =
    sub_value binary64 (fin s m e) (fin s m e) s s (m * up e) (down e) (m * up e) (down e) (down_pos e) (down_pos e) (refl, refl) (refl, refl)
    ∙ nothing binary64 s (m * up e * down e) c
    ∙ round_same binary64 false 0 c 0 1 C (pow_pos 0) (sym (zero-mul c))
    ∙ sym Constants.zero_is in
    ap (λ (z : Float). eq z Constants.zero) gone
