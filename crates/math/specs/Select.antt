-- Sign, smaller, larger and clamped values.
use Rattle.std.specs.Prelude.{Bool, false, cond, Float}
use Rattle.std.specs.Float.{nan, inf, fin}
use Rattle.std.specs.Float.Ieee.{is_nan, lt, neg}

-- IEEE 754-2019, 5.5.1, abs: the sign is taken off, of a zero too.
abbrev pub absolute : Float → Float
absolute nan = nan
absolute (inf s) = inf false
absolute (fin s m e) = fin false m e

-- The sign bit stands; a NaN has none here.
abbrev pub negative : Float → Bool
negative nan = false
negative (inf s) = s
negative (fin s m e) = s

-- IEEE 754-2019, 9.6, minimumNumber: a number rather than a NaN, the lesser of two numbers, and -0 is less than +0.
abbrev pub minimum_number : Float → Float → Float
minimum_number x y = cond (is_nan x) y (cond (is_nan y) x (cond (lt x y) x (cond (lt y x) y (cond (negative x) x y))))

-- IEEE 754-2019, 9.6, maximumNumber: a number rather than a NaN, the greater of two numbers, and +0 is greater than -0.
abbrev pub maximum_number : Float → Float → Float
maximum_number x y = cond (is_nan x) y (cond (is_nan y) x (cond (lt x y) y (cond (lt y x) x (cond (negative x) y x))))

-- Clamped to ±limit: the bound when strictly past it.
abbrev pub clamp_to : Float → Float → Float
clamp_to limit x = cond (lt x (neg limit)) (neg limit) (cond (lt limit x) limit x)
