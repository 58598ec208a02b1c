-- Similar widths are the same either way round, and a width is similar to itself: the difference of two whole numbers is exact, and so is
-- the larger.
use mathlib.Core.Path.{◌≡◌, refl, sym, ap, ap₂, ◌∙◌}
use mathlib.Core.Bool.{Bool, true, false, cond}
use Prim.Native.Nat.{ℕ, ◌-◌, ◌*◌, ◌^◌, ◌≤◌, ◌<◌, max}
use native.Mathlib.Nat.{mul-one, mul_assoc, mul_comm, mul-pos, mul-lt-mul_of_pos_right, mul-le-mul_right, max_comm, min_comm}
use native.Mathlib.Decide.{dec_lt}
use native.Mathlib.Omega.{arith}
use lib.Dec.{ltb, lit<}
use lib.Ieee.{Float, nan, inf, fin, binary64, up, down, round, sum, sub, mul, neg, lt, le, of_int, of_bits, is_nan}
use lib.Ieee.Bits.{is_true}
use lib.Ieee.Exact.{HasValue}
use lib.Ieee.Fits.{down_pos}
use lib.Ieee.Order.{round_mono}
use borrow.Author.Tests.{ltb-true, ltb-false, lt-ltb, le-ltb}
use Rattle.math.specs.Constants.{three_tenths}
use Rattle.math.specs.Select.{absolute, negative, maximum_number}
use Rattle.math.specs.Sum.{whole}
use Rattle.math.proofs.Rounded.{round_neg}
use Rattle.math.proofs.Sums.{whole_value}
use Rattle.math.proofs.Value.{sub_value, mul_value}
use Rattle.rects.specs.Rects.{distance}
use Rattle.box_widths.specs.Widths.{similar}

-- ---- the difference

absolute_neg : (x : Float) → absolute (neg x) ≡ absolute x
unfolding neg
absolute_neg nan = refl
absolute_neg (inf s) = refl
absolute_neg (fin s m e) = refl

absolute_plain : (x : Float) (a c : ℕ) → HasValue x false a c → absolute x ≡ x
absolute_plain nan a c h = absurd h
absolute_plain (inf s) a c h = absurd h
absolute_plain (fin s m e) a c h = ap (λ (t : Bool). fin t m e) (sym h.0)

difference : (a b : ℕ) → a ≤ 2 ^ 53 → b ≤ 2 ^ 53 → absolute (sub binary64 (whole a) (whole b)) ≡ whole (distance a b)
unfolding of_int sum
difference a b A B =
    ap absolute (sub_value binary64 (whole a) (whole b) false false a 1 b 1 (lit< tt) (lit< tt) (whole_value a A) (whole_value b B))
    ∙ ap₂ (λ (x y : ℕ). absolute (sum binary64 false x true y 1)) (mul-one a) (mul-one b) ∙ go (ltb a b) refl
  where
    plain : (n : ℕ) → n ≤ 2 ^ 53 → absolute (whole n) ≡ whole n
    plain n h = absolute_plain (whole n) n 1 (whole_value n h)

    go : (t : Bool) → ltb a b ≡ t → absolute (cond t (round binary64 true (b - a) 1) (round binary64 false (a - b) 1)) ≡ whole (distance a b)
    go true e =
        let l = ltb-true a b e in
        let d : b - a ≡ distance a b = omega arith in
        ap absolute (sym (round_neg binary64 (b - a) 1)) ∙ absolute_neg (whole (b - a)) ∙ plain (b - a) (omega arith) ∙ ap whole d
    go false e =
        let l = ltb-false a b e in
        let d : a - b ≡ distance a b = omega arith in
        plain (a - b) (omega arith) ∙ ap whole d

-- ---- the larger

scaled : (x y a b d g : ℕ) → 0 < d → 0 < g → x * 1 ≡ a * d → y * 1 ≡ b * g → ltb (x * g) (y * d) ≡ ltb a b
scaled x y a b d g D G p q =
    ap₂ ltb (ap (λ (z : ℕ). z * g) (sym (mul-one x) ∙ p) ∙ mul_assoc a d g) (ap (λ (z : ℕ). z * d) (sym (mul-one y) ∙ q) ∙ mul_assoc b g d ∙ ap (λ (z : ℕ). b * z) (mul_comm g d))
    ∙ go (dec_lt a b)
  where
    go : Dec (a < b) → ltb (a * (d * g)) (b * (d * g)) ≡ ltb a b
    go (yes l) = lt-ltb (a * (d * g)) (b * (d * g)) (mul-lt-mul_of_pos_right l (mul-pos D G)) ∙ sym (lt-ltb a b l)
    go (no l) =
        let h : b ≤ a = omega arith in le-ltb (a * (d * g)) (b * (d * g)) (mul-le-mul_right (d * g) h) ∙ sym (le-ltb a b h)

lt_value : (x y : Float) (a b : ℕ) → HasValue x false a 1 → HasValue y false b 1 → lt x y ≡ ltb a b
unfolding lt
lt_value nan y a b h k = absurd h
lt_value (inf s) y a b h k = absurd h
lt_value (fin s m e) nan a b h k = absurd k
lt_value (fin s m e) (inf t) a b h k = absurd k
lt_value (fin true m e) (fin t n g) a b h k = absurd (no_sign h.0)
  where
    no_sign : true ≡ false → ⊥
    no_sign z = let w : ◌≡◌ {A = ℕ} 0 1 = cc in omega arith
lt_value (fin false m e) (fin true n g) a b h k = absurd (no_sign k.0)
  where
    no_sign : true ≡ false → ⊥
    no_sign z = let w : ◌≡◌ {A = ℕ} 0 1 = cc in omega arith
lt_value (fin false m e) (fin false n g) a b h k = scaled (m * up e) (n * up g) a b (down e) (down g) (down_pos e) (down_pos g) h.1 k.1

not_nan : (x : Float) (a c : ℕ) → HasValue x false a c → is_nan x ≡ false
unfolding is_nan
not_nan nan a c h = absurd h
not_nan (inf s) a c h = refl
not_nan (fin s m e) a c h = refl

max_second : (x y : Float) → is_nan x ≡ false → is_nan y ≡ false → lt x y ≡ true → maximum_number x y ≡ y
max_second x y p q r = rw (p, q, r) refl

max_first : (x y : Float) → is_nan x ≡ false → is_nan y ≡ false → lt x y ≡ false → lt y x ≡ true → maximum_number x y ≡ x
max_first x y p q r s = rw (p, q, r, s) refl

max_self : (x : Float) → is_nan x ≡ false → maximum_number x x ≡ x
max_self x p = rw p (go (lt x x) (negative x))
  where
    go : (t u : Bool) → cond t x (cond t x (cond u x x)) ≡ x
    go true u = refl
    go false true = refl
    go false false = refl

larger : (a b : ℕ) → a ≤ 2 ^ 53 → b ≤ 2 ^ 53 → maximum_number (whole a) (whole b) ≡ whole (max a b)
larger a b A B = go (dec_lt a b) (dec_lt b a)
  where
    na : is_nan (whole a) ≡ false
    na = not_nan (whole a) a 1 (whole_value a A)

    nb : is_nan (whole b) ≡ false
    nb = not_nan (whole b) b 1 (whole_value b B)

    by : lt (whole a) (whole b) ≡ ltb a b
    by = lt_value (whole a) (whole b) a b (whole_value a A) (whole_value b B)

    back : lt (whole b) (whole a) ≡ ltb b a
    back = lt_value (whole b) (whole a) b a (whole_value b B) (whole_value a A)

    go : Dec (a < b) → Dec (b < a) → maximum_number (whole a) (whole b) ≡ whole (max a b)
    go (yes l) k = let d : b ≡ max a b = omega arith in max_second (whole a) (whole b) na nb (by ∙ lt-ltb a b l) ∙ ap whole d
    go (no l) (yes k) =
        let d : a ≡ max a b = omega arith in
        max_first (whole a) (whole b) na nb (by ∙ le-ltb a b (omega arith)) (back ∙ lt-ltb b a k) ∙ ap whole d
    go (no l) (no k) =
        let e : b ≡ a = omega arith in
        let d : a ≡ max a b = omega arith in
        ap (λ (z : ℕ). maximum_number (whole a) (whole z)) e ∙ max_self (whole a) na ∙ ap whole d

-- ---- what the code computes, and both ways round

pub similar_whole : (a b : ℕ) → a ≤ 2 ^ 53 → b ≤ 2 ^ 53 → similar a b ≡ le (whole (distance a b)) (mul binary64 three_tenths (whole (max a b)))
unfolding similar
similar_whole a b A B = ap₂ (λ (x y : Float). le x (mul binary64 three_tenths y)) (difference a b A B) (larger a b A B)

pub found_similar : (a b : ℕ) {d m : ℕ} → a < 2 ^ 32 → b < 2 ^ 32 → d ≡ distance a b → m ≡ max a b
    → le (whole d) (mul binary64 three_tenths (whole m)) ≡ similar a b
found_similar a b A B p q =
    ap₂ (λ (x y : ℕ). le (whole x) (mul binary64 three_tenths (whole y))) p q ∙ sym (similar_whole a b (omega arith) (omega arith))

pub similar_comm : (a b : ℕ) → a ≤ 2 ^ 53 → b ≤ 2 ^ 53 → similar a b ≡ similar b a
similar_comm a b A B =
    similar_whole a b A B
    ∙ ap₂ (λ (x y : ℕ). le (whole (x - y)) (mul binary64 three_tenths (whole x))) (max_comm a b) (min_comm a b)
    ∙ sym (similar_whole b a B A)

-- ---- a width and itself

three_tenths_value : HasValue three_tenths false 5404319552844595 (2 ^ 54)
unfolding of_bits
three_tenths_value = (refl, refl)

-- a product of numbers that are not negative is not negative
not_below_zero : (a : ℕ) → a ≤ 2 ^ 53 → le (whole 0) (mul binary64 three_tenths (whole a)) ≡ true
unfolding of_int
not_below_zero a A =
    ap (le (whole 0)) (mul_value binary64 three_tenths (whole a) false false 5404319552844595 (2 ^ 54) a 1 (lit< tt) (lit< tt) three_tenths_value (whole_value a A))
    ∙ is_true _ (round_mono binary64 0 1 (5404319552844595 * a) (2 ^ 54 * 1) (lit< tt) (lit< tt) (omega arith))

pub similar_itself : (a : ℕ) → a < 2 ^ 32 → similar a a ≡ true
similar_itself a A = sym (found_similar a a {d = 0} {m = a} A A (omega arith) (omega arith)) ∙ not_below_zero a (omega arith)
