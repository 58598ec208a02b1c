-- A glyph box that is narrower than the whole part of the least width is passed over by its first test.
use Rattle.std.proofs.Common.{◌≡◌, ℕ, ◌+◌, ◌*◌, ◌/◌, ◌<◌, ◌≤◌, true, false, sym, refl, ◌∙◌, true≢false, lt_of_lt_of_le, mul_assoc, mul_comm, mul-lt-mul_of_pos_right, le-div_iff_mul-le, mul-one, arith, lt-ltb}
use lib.Ieee.{Float, nan, inf, fin, up, down, lt, to_unsigned}
use lib.Ieee.Exact.{HasValue}
use lib.Ieee.Fits.{down_pos}
use Rattle.math.specs.Sum.{whole}
use Rattle.math.proofs.Sums.{whole_value}
use Rattle.rects.specs.Rects.{width_of, height_of}
use Rattle.rects.specs.declared.Rect.{Rect}
use Rattle.ink.specs.Ink.{Ink}
use Rattle.glyph_tests.specs.declared.limits.Limits.{Limits}
use Rattle.std.specs.Prelude.{None}
use Rattle.glyph_tests.specs.Tests.{size_missed}
use Rattle.glyph_tests.specs.Steps.{found_of}
use Rattle.glyph_tests.proofs.Tests.{by_loose_size}

-- two fractions in one unit: w / 1 as a / d, and b / c
scaled : (w a b c d : ℕ) → 0 < c → 0 < d → a * 1 ≡ w * d → w + 1 ≤ b / c → a * c < b * d
scaled w a b c d C D e h =
    let more : (w + 1) * c ≤ b = (le-div_iff_mul-le C).0 h in
    let less : w * c < b = lt_of_lt_of_le (mul-lt-mul_of_pos_right (omega arith) C) more in
    rw (sym (mul-one a) ∙ e, mul_assoc w d c, mul_comm d c, sym (mul_assoc w c d)) (mul-lt-mul_of_pos_right less D)

-- a whole number below the whole part of a float is below it
below_cast : (bits : ℕ) (y x : Float) (w : ℕ) → HasValue y false w 1 → w < to_unsigned bits x → lt y x ≡ true
unfolding lt to_unsigned
below_cast bits nan x w v h = absurd v
below_cast bits (inf s) x w v h = absurd v
below_cast bits (fin s m e) nan w v h = absurd (omega arith)
below_cast bits (fin s m e) (inf true) w v h = absurd (omega arith)
below_cast bits (fin s m e) (inf false) w v h = refl
below_cast bits (fin s m e) (fin true n d) w v h = absurd (omega arith)
below_cast bits (fin true m e) (fin false n d) w v h = absurd (true≢false v.0)
below_cast bits (fin false m e) (fin false n d) w v h =
    lt-ltb (m * up e * down d) (n * up d * down e) (scaled w (m * up e) (n * up d) (down d) (down e) (down_pos d) (down_pos e) v.1 (omega arith))

size_narrow : (w h : ℕ) (least most : Float) → lt (whole w) least ≡ true → size_missed w h least most ≡ true
unfolding size_missed
size_narrow w h least most e = simp e

-- the whole part of a float, which `whole_part` takes
pub below_whole_part : (x : Float) (n : ℕ) → n ≤ 8192 → n < to_unsigned 64 x → lt (whole n) x ≡ true
below_whole_part x n small h = below_cast 64 (whole n) x n (whole_value n (omega arith)) h

pub narrow_passed : (ink : Ink) (l : Limits) (r : Rect) → lt (whole (width_of r)) l.min_size ≡ true → None ≡ found_of ink l r
narrow_passed ink l r h = by_loose_size ink l r (size_narrow (width_of r) (height_of r) l.min_size l.slack h)
