-- The library's words for what is finite, for a sign and for a size are the definitions', and the size of a zero is +0.
use Rattle.std.proofs.Common.{◌≡◌, true, false, Float, refl, sym}
use lib.Ieee.{nan, inf, fin, binary64, fits, eq}
use lib.Ieee.Scale.{finite}
use Rattle.std.specs.Float.{float_is_finite, is_sign_negative, float_with_sign}
use Rattle.math.specs.Constants.{zero}
use Rattle.math.specs.Select.{absolute, negative}
use Rattle.math.proofs.Tests.{of_true, abs_zero}

pub finite_is : (x : Float) → float_is_finite x ≡ finite x
unfolding float_is_finite
finite_is nan = refl
finite_is (inf s) = refl
finite_is (fin s m e) = refl

pub negative_is : (x : Float) → is_sign_negative x ≡ negative x
unfolding is_sign_negative
negative_is nan = refl
negative_is (inf s) = refl
negative_is (fin s m e) = refl

pub size_is : (x : Float) → float_with_sign false x ≡ absolute x
unfolding float_with_sign
size_is nan = refl
size_is (inf s) = refl
size_is (fin s m e) = refl

pub zero_size : (x : Float) → fits binary64 x ≡ true → eq x zero ≡ true → absolute x ≡ zero
zero_size x f h = sym (abs_zero x (of_true f) h)
