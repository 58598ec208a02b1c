-- A float beside the ends of i64: at or past the upper end, below the lower one, or between them, where the whole part is the cast.
use Rattle.std.proofs.Common.{◌≡◌, ℕ, ◌+◌, ◌-◌, ◌*◌, ◌/◌, ◌^◌, ◌<◌, ◌≤◌, min, Bool, true, false, ◌&&◌, ◌||◌, T, eqb, ltb, ◌⊎◌, ℤ, pos, negsuc, neg_ℤ, sym, refl, ap, ◌∙◌, inl, inr, true≢false, le_trans, le_of_eq, lt_of_lt_of_le, le-add_right, le_of_lt, eq-or-lt_of_le, mul-pos, le-div_iff_mul-le, mul-one, le-add_left, arith, lt→ltb, pow_pos, ltb-false, ltb-true, lt-ltb, eqb-true}
use lib.Ieee.{Float, nan, inf, fin, up, down, lt, le, eq, to_signed}
use lib.Ieee.Fits.{down_pos}
use borrow.Author.Tests.{eqb-false}
use Rattle.math.proofs.Tests.{of_true, equal_itself}

-- 2 ^ 63 and -2 ^ 63
abbrev pub end : Bool → Float
end s = fin s 1 (pos 63)

at_most : (a b : ℕ) → T (ltb a b || (eqb a b && true)) → a ≤ b
at_most a b t = go (ltb a b) (eqb a b) refl refl t
  where
    go : (p q : Bool) → ltb a b ≡ p → eqb a b ≡ q → T (p || (q && true)) → a ≤ b
    go true q e f t = le_of_lt (ltb-true a b e)
    go false true e f t = le_of_eq (eqb-true a b f)
    go false false e f t = absurd t

of_at_most : (a b : ℕ) → a ≤ b → T (ltb a b || (eqb b a && true))
of_at_most a b h = go (ltb a b) (eqb b a) refl refl (eq-or-lt_of_le h)
  where
    go : (p q : Bool) → ltb a b ≡ p → eqb b a ≡ q → (a ≡ b) ⊎ (a < b) → T (p || (q && true))
    go true q e f h = tt
    go false true e f h = tt
    go false false e f (inl h) = absurd (eqb-false b a f (sym h))
    go false false e f (inr h) = absurd (true≢false (sym (lt-ltb a b h) ∙ e))

not_at_most : (a b : ℕ) → ltb a b || (eqb a b && true) ≡ false → b < a
not_at_most a b h = go (ltb a b) (eqb a b) refl refl h
  where
    go : (p q : Bool) → ltb a b ≡ p → eqb a b ≡ q → p || (q && true) ≡ false → b < a
    go true q e f h = absurd (true≢false h)
    go false true e f h = absurd (true≢false h)
    go false false e f h = elim (eq-or-lt_of_le (ltb-false a b e)) [ inl k ↦ absurd (eqb-false a b f (sym k)) | inr k ↦ k ]

or_true : (p q : Bool) → T p → T (p || q)
or_true true q t = tt
or_true false q t = absurd t

never : (p q : Bool) → p && q ≡ true → q ≡ true
never true q h = h
never false q h = absurd (true≢false (sym h))

-- 2 ^ 63 in any unit is above 0
end_pos : (e : ℤ) → 0 < 2 ^ 63 * down e
end_pos e = mul-pos (pow_pos 63) (down_pos e)

capped : (q n : ℕ) → n ≤ q → min q (n - 1) ≡ n - 1
capped q n h = omega arith

full : (q n : ℕ) → n ≤ q → min q n ≡ n
full q n h = omega arith

-- the whole part of a size at or past n
whole_past : (n a c : ℕ) → 0 < c → n * c ≤ a → n ≤ a / c
whole_past n a c C h = (le-div_iff_mul-le C).1 h

pub cast_high : (x : Float) → le (end false) x ≡ true → to_signed 63 x ≡ pos (2 ^ 63 - 1)
unfolding le to_signed
cast_high nan h = absurd (true≢false (sym h))
cast_high (inf true) h = absurd (true≢false (sym h))
cast_high (inf false) h = refl
cast_high (fin true m e) h = absurd (positive_ne (2 ^ 63 * down e) (end_pos e) (eqb-true (2 ^ 63 * down e) 0 (never (eqb (2 ^ 63 * down e) (m * up e * 1)) (eqb (2 ^ 63 * down e) 0) h)))
  where
    positive_ne : (a : ℕ) → 0 < a → a ≡ 0 → ⊥
    positive_ne a h e = omega arith
cast_high (fin false m e) h = ap pos (capped (m * up e / down e) (2 ^ 63) (whole_past (2 ^ 63) (m * up e) (down e) (down_pos e) (le_trans (at_most (2 ^ 63 * down e) (m * up e * 1) (of_true h)) (le_of_eq (mul-one (m * up e))))))

pub cast_low : (x : Float) → lt x (end true) ≡ true → to_signed 63 x ≡ negsuc (2 ^ 63 - 1)
unfolding lt to_signed
cast_low nan h = absurd (true≢false (sym h))
cast_low (inf true) h = refl
cast_low (inf false) h = absurd (true≢false (sym h))
cast_low (fin true m e) h = ap (λ (n : ℕ). neg_ℤ (pos n)) (full (m * up e / down e) (2 ^ 63) (whole_past (2 ^ 63) (m * up e) (down e) (down_pos e) (le_trans (le_of_lt (ltb-true (2 ^ 63 * down e) (m * up e * 1) h)) (le_of_eq (mul-one (m * up e))))))
cast_low (fin false m e) h = absurd (true≢false (sym h))

pub above_low : (x : Float) → eq x x ≡ true → lt x (end true) ≡ false → T (le (end true) x)
unfolding lt le eq
above_low nan r h = absurd (true≢false (sym r))
above_low (inf true) r h = absurd (true≢false h)
above_low (inf false) r h = tt
above_low (fin true m e) r h = of_at_most (m * up e * 1) (2 ^ 63 * down e) (ltb-false (2 ^ 63 * down e) (m * up e * 1) h)
above_low (fin false m e) r h = or_true (ltb 0 (2 ^ 63 * down e + m * up e * 1)) (eqb (2 ^ 63 * down e) (m * up e * 1) && eqb (2 ^ 63 * down e) 0) (lt→ltb 0 (2 ^ 63 * down e + m * up e * 1) (lt_of_lt_of_le (end_pos e) (le-add_right (2 ^ 63 * down e) (m * up e * 1))))

pub below_high : (x : Float) → eq x x ≡ true → le (end false) x ≡ false → T (lt x (end false))
unfolding lt le eq
below_high nan r h = absurd (true≢false (sym r))
below_high (inf true) r h = tt
below_high (inf false) r h = absurd (true≢false h)
below_high (fin true m e) r h = lt→ltb 0 (m * up e * 1 + 2 ^ 63 * down e) (lt_of_lt_of_le (end_pos e) (le-add_left (2 ^ 63 * down e) (m * up e * 1)))
below_high (fin false m e) r h = lt→ltb (m * up e * 1) (2 ^ 63 * down e) (not_at_most (2 ^ 63 * down e) (m * up e * 1) h)

pub cast_nan : (x : Float) → eq x x ≡ false → to_signed 63 x ≡ pos 0
unfolding eq to_signed
cast_nan nan h = refl
cast_nan (inf true) h = absurd (true≢false h)
cast_nan (inf false) h = absurd (true≢false h)
cast_nan (fin s m e) h = absurd (true≢false (sym (equal_itself s (m * up e * down e)) ∙ h))
