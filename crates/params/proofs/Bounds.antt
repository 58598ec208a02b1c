-- What the tests of a float say, in `math`'s terms.
use mathlib.Core.Path.{◌≡◌, refl, ap}
use Prim.Native.Nat.{ℕ}
use mathlib.Core.Bool.{Bool, true, false, ◌&&◌, ◌||◌}
use lib.Dec.{T}
use lib.Ieee.{Float, lt, le, eq, of_bits}
use lib.Ieee.Exact.{HasValue}
use lib.Ieee.Positive.{positive}
use lib.Ieee.Scale.{finite}
use borrow.Author.Tests.{not-true}
use Rattle.math.specs.Constants.{zero, million}
use Rattle.math.proofs.Bound.{AtMost}
use Rattle.math.proofs.Limit.{size_at_most, between_at_most, from_zero, above_zero}
use Rattle.params.specs.Constants.{float_one, largest_xheight}
use Rattle.params.specs.Scan.{xheight_in_range}
use Rattle.params.specs.Settings.{bounded, not_negative, from_zero_to_one, from_zero_to_million}
use Rattle.params.proofs.Every.{both_true}

million_value : HasValue million false 1_000_000 1
unfolding of_bits
million_value = (refl, refl)

one_value : HasValue float_one false 1 1
unfolding of_bits
one_value = (refl, refl)

xheight_value : HasValue largest_xheight false 4096 1
unfolding of_bits
xheight_value = (refl, refl)

-- x is from 0 to n; a minus zero is
pub record From0To (n : ℕ) (x : Float) : Type 0 where
  pub at_most : AtMost n x
  pub not_below : lt x zero ≡ false

-- x is above 0 and at most 4,096
pub record XHeight (x : Float) : Type 0 where
  pub at_most : AtMost 4096 x
  pub positive : T (positive x)
  pub not_below : lt x zero ≡ false

pub bounded_says : (x : Float) → bounded x ≡ true → AtMost 1_000_000 x
bounded_says x h = let b = both_true (finite x) _ h in size_at_most 1_000_000 x million million_value b.0 b.1

pub not_negative_says : (x : Float) → not_negative x ≡ true → lt x zero ≡ false
not_negative_says x h = not-true (lt x zero) h

pub between_says : (n : ℕ) (x y : Float) → HasValue y false n 1 → le zero x ≡ true → le x y ≡ true → From0To n x
between_says n x y v h k = record { at_most = between_at_most n x y v h k; not_below = from_zero x h }

pub from_zero_to_one_says : (x : Float) → from_zero_to_one x ≡ true → From0To 1 x
from_zero_to_one_says x h = let b = both_true (le zero x) (le x float_one) h in between_says 1 x float_one one_value b.0 b.1

pub from_zero_to_million_says : (x : Float) → from_zero_to_million x ≡ true → From0To 1_000_000 x
from_zero_to_million_says x h =
    let b = both_true (finite x && le zero x) (le x million) h in
    between_says 1_000_000 x million million_value (both_true (finite x) (le zero x) b.0).1 b.1

at_least : (x y : Float) → lt x y ≡ true → le x y ≡ true
unfolding le
at_least x y h = ap (λ (b : Bool). b || eq x y) h

pub xheight_says : (x : Float) → xheight_in_range x ≡ true → XHeight x
xheight_says x h =
    let b = both_true (finite x && lt zero x) (le x largest_xheight) h in
    let c = both_true (finite x) (lt zero x) b.0 in
    let r = between_says 4096 x largest_xheight xheight_value (at_least zero x c.1) b.1 in
    record { at_most = r.at_most; positive = above_zero x c.0 c.1; not_below = r.not_below }
