-- A rounded fraction is within half a unit in its last place of the fraction, said over whole numbers.
-- `round` picks a unit u and keeps the number nearest to n / u; that number times u is within u / 2 of n.
use mathlib.Core.Path.{◌≡◌, sym, ap, ◌∙◌, subst}
use Prim.Native.Nat.{ℕ, suc, ◌+◌, ◌-◌, ◌*◌, ◌/◌, ◌%◌, ◌^◌, ◌≤◌, ◌<◌, compare, Ordering}
use native.Mathlib.Nat.{mod-lt, div-add-mod', add-mul, suc-mul, one-mul, mul_assoc, mul_right_comm, mul-pos, mul-le-mul_left, mul-le-mul_right, mul-lt-mul_of_pos_right, le_trans, le_of_eq, lt_of_lt_of_le, div-lt_iff_lt-mul}
use native.Mathlib.Omega.{arith}
use mathlib.Core.Bool.{Bool, not}
use lib.Dec.{T, is_le, compare_is_eq, leb→le, nleb→lt, eqb→eq}
use lib.Pow.{pow-add, pow_pos, pow_mono}
use lib.Ieee.{Float, Format, prec, low, size, nearest, round}
use lib.Ieee.Digits.{size-le}
use lib.Ieee.Exact.{HasValue, units_val}
use lib.Ieee.Fits.{round_is}
use lib.Ieee.Nearest.{closest}
use lib.Ieee.Order.{drop, kept}
use lib.Ieee.Scale.{grid, overflow}

-- p lies within h / 2 of q, doubled so that it stays whole
pub record Half (p q h : ℕ) : Type 0 where
  pub not_above : 2 * p ≤ 2 * q + h
  pub not_below : 2 * q ≤ 2 * p + h

-- ---- the number nearest to a / u

odd_part : (w u : ℕ) → w % 2 * u ≤ u
odd_part w u = le_trans (mul-le-mul_right u (at_most_one w)) (le_of_eq (one-mul u))
  where
    at_most_one : (w : ℕ) → w % 2 ≤ 1
    at_most_one w = omega arith

near : (w r u : ℕ) (o : Ordering) → r < u → (T (is_le o) → r * 2 ≤ u) → (T (not (is_le o)) → u < r * 2) → (T (compare_is_eq o) → r * 2 ≡ u) → Half (nearest w o * u) (w * u + r) u
near w r u Ordering.lt h le gt eq = let l = le tt in record { not_above = omega arith; not_below = omega arith }
near w r u Ordering.eq h le gt eq =
    let e = eq tt in
    let d : (w + w % 2) * u ≡ w * u + w % 2 * u = add-mul w (w % 2) u in
    let b = odd_part w u in
    record { not_above = omega arith; not_below = omega arith }
near w r u Ordering.gt h le gt eq =
    let g = gt tt in
    let d : suc w * u ≡ w * u + u = suc-mul w u in
    record { not_above = omega arith; not_below = omega arith }

pub closest_half : (a u : ℕ) → 0 < u → Half (closest a u * u) a u
closest_half a u U =
    subst (λ (z : ℕ). Half (closest a u * u) z u) (div-add-mod' a u)
    (near (a / u) (a % u) u (compare (a % u * 2) u) (mod-lt a U) (leb→le (a % u * 2) u) (nleb→lt (a % u * 2) u) (eqb→eq (a % u * 2) u))

-- ---- the rounded fraction, in units of the format's smallest value

pub round_value : (f : Format) (s : Bool) (a c : ℕ) → grid f a c < overflow f → HasValue (round f s a c) s (grid f a c) (2 ^ low f)
round_value f s a c h =
    subst (λ (z : Float). HasValue z s (grid f a c) (2 ^ low f)) (sym (round_is f s a c))
    (units_val f s (kept (prec f) (a * 2 ^ low f) c) (drop (prec f) (a * 2 ^ low f) c) h)

-- the unit in the last place of a fraction below 2 ^ j
spare : (z l p : ℕ) → z ≤ l → z - p ≤ l - p
spare z l p h = omega arith

pub unit_le : (f : Format) (a c j : ℕ) → 0 < c → a < 2 ^ j * c → drop (prec f) (a * 2 ^ low f) c ≤ j + low f - prec f
unit_le f a c j C h =
    let l = 2 ^ low f in
    spare (size (a * l / c)) (j + low f) (prec f)
    (size-le (a * l / c) (j + low f)
    ((div-lt_iff_lt-mul C).1
    (lt_of_lt_of_le (mul-lt-mul_of_pos_right h (pow_pos (low f)))
    (le_of_eq (mul_right_comm (2 ^ j) c l ∙ ap (λ (z : ℕ). z * c) (sym (pow-add 2 j (low f))))))))

widen : (p q h k : ℕ) → h ≤ k → Half p q h → Half p q k
widen p q h k l n =
    let a = n.not_above in
    let b = n.not_below in
    record { not_above = omega arith; not_below = omega arith }

pub half_unit : (f : Format) (a c j : ℕ) → 0 < c → a < 2 ^ j * c → Half (grid f a c * c) (a * 2 ^ low f) (c * 2 ^ (j + low f - prec f))
half_unit f a c j C h =
    let n = a * 2 ^ low f in
    let k = drop (prec f) n c in
    let u = c * 2 ^ k in
    widen (grid f a c * c) n u (c * 2 ^ (j + low f - prec f)) (mul-le-mul_left c (pow_mono (unit_le f a c j C h)))
    (subst (λ (z : ℕ). Half z n u) (sym (mul_assoc (closest n u) c (2 ^ k)) ∙ mul_right_comm (closest n u) c (2 ^ k)) (closest_half n u (mul-pos C (pow_pos k))))
