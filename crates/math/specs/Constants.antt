-- The constants of document 01. Each is the fraction that it is written as, rounded to binary64; the bits are what a literal of the program stands for.
use Rattle.std.specs.Prelude.{ℕ, ◌^◌, ◌≡◌, refl, false, Float}
use Rattle.std.specs.Float.{binary64}
use Rattle.std.specs.Float.Ieee.{of_bits, round}

abbrev pub zero : Float
zero = of_bits binary64 0

abbrev pub three_tenths : Float
three_tenths = of_bits binary64 0x3fd3_3333_3333_3333

abbrev pub half : Float
half = of_bits binary64 0x3fe0_0000_0000_0000

abbrev pub sixteen_tenths : Float
sixteen_tenths = of_bits binary64 0x3ff9_9999_9999_999a

abbrev pub two : Float
two = of_bits binary64 0x4000_0000_0000_0000

abbrev pub ten : Float
ten = of_bits binary64 0x4024_0000_0000_0000

abbrev pub million : Float
million = of_bits binary64 0x412e_8480_0000_0000

abbrev pub two_to52 : Float
two_to52 = of_bits binary64 0x4330_0000_0000_0000

-- the number that is written as the fraction a / b
abbrev pub fraction : ℕ → ℕ → Float
fraction a b = round binary64 false a b

pub zero_is : zero ≡ fraction 0 1
unfolding of_bits round
zero_is = refl

pub constants_are : (three_tenths ≡ fraction 3 10) × (half ≡ fraction 1 2) × (sixteen_tenths ≡ fraction 16 10) × (two ≡ fraction 2 1)
    × (ten ≡ fraction 10 1) × (million ≡ fraction 1_000_000 1) × (two_to52 ≡ fraction (2 ^ 52) 1)
unfolding of_bits round
constants_are = (refl, refl, refl, refl, refl, refl, refl)
