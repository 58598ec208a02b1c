-- The library's word for a rounding is the definition's.
use Rattle.std.proofs.Common.{◌≡◌, true, false, Float, refl}
use lib.Ieee.{nan, inf, fin, binary64}
use Rattle.std.specs.Float.{float_round, round_with}
use Rattle.math.specs.Rounding.{round_away}

pub round_is : (x : Float) → float_round binary64 x ≡ round_away x
unfolding round_with round_away
round_is nan = refl
round_is (inf s) = refl
round_is (fin true m e) = refl
round_is (fin false m e) = refl
