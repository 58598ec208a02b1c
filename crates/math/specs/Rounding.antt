-- Document 01's "round": to the nearest whole number, halves away from zero, and the limits that are rounded products.
use Rattle.std.specs.Prelude.{ℕ, ◌+◌, ◌*◌, ◌/◌, cond, ℤ, Float}
use Rattle.std.specs.Float.{nan, inf, fin, binary64}
use Rattle.std.specs.Float.Ieee.{up, down, round, mul, div, eq, to_signed}
use Rattle.math.specs.Constants.{zero, million}

-- The whole number nearest to a / b, a half upward: the whole part of a / b + 1 / 2.
abbrev pub nearest_whole : ℕ → ℕ → ℕ
nearest_whole a b = (2 * a + b) / (2 * b)

-- IEEE 754-2019, 5.9, roundToIntegralTiesToAway: the nearest whole number, a half away from zero, with the operand's sign.
unfoldable pub round_away : Float → Float
round_away nan = nan
round_away (inf s) = inf s
round_away (fin s m e) = round binary64 s (nearest_whole (m * up e) (down e)) 1

-- round(a × b) as a whole number: one rounded product, rounded to a whole number, cast as The Rust Reference casts to i64.
abbrev pub rounded_product : Float → Float → ℤ
rounded_product a b = to_signed 63 (round_away (mul binary64 a b))

-- `round_output`: to six decimals, and a zero of either sign is +0.
abbrev pub round_output : Float → Float
round_output x = let r = div binary64 (round_away (mul binary64 x million)) million in cond (eq r zero) zero r
