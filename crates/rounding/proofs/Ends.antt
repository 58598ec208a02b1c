-- What the cast is from the upper end on, as a test of the code names that end.
use Rattle.std.proofs.Common.{◌≡◌, true, Float, pos}
use lib.Ieee.{binary64, of_bits, le, to_signed}
use Rattle.rounding.proofs.Cast.{cast_high}

pub from_end : (x : Float) → le (of_bits binary64 0x43e0_0000_0000_0000) x ≡ true → to_signed 63 x ≡ pos 9223372036854775807
unfolding of_bits
from_end x h = cast_high x h
