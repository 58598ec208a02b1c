-- The limits of the questions that `math` has no name for, each the number that it is written as, rounded to binary64.
use Rattle.std.specs.Prelude.{◌≡◌, refl, Float}
use Rattle.std.specs.Float.{binary64}
use Rattle.std.specs.Float.Ieee.{of_bits, round}
use Rattle.math.specs.Constants.{fraction}

-- 1.
abbrev pub float_one : Float
float_one = of_bits binary64 0x3ff0_0000_0000_0000

-- 4,096.
abbrev pub largest_xheight : Float
largest_xheight = of_bits binary64 0x40b0_0000_0000_0000

-- The bits are those of the two numbers.
pub constants_are : (float_one ≡ fraction 1 1) × (largest_xheight ≡ fraction 4096 1)
unfolding of_bits round
constants_are = (refl, refl)
