-- Entries of a shear table: how the code reads them, and what question 4 says of them.
use mathlib.Core.Path.{◌≡◌}
use mathlib.Core.Bool.{true, false, ◌&&◌}
use Prim.Native.Nat.{ℕ}
use lib.Dec.{leb}
use lib.IntN.{ℤ, pos, nat_abs}
use lib.Signed.{non_neg}
use mir.Syntax.{w32}
use mir.Val.{SFits, of_z, to_z}
use mir.ValLaws.{to_z-of_z}

pub whole_not_below : (z : ℤ) (n : ℕ) → z ≡ pos n → non_neg z ≡ true
whole_not_below z n e = rw e

-- the test of one entry: below 0, or not and then compared with the limit
pub below_test : (limit : ℕ) (z : ℤ) → non_neg z ≡ false → false ≡ non_neg z && leb (nat_abs z) limit
below_test limit z t = rw t

pub limit_test : (limit : ℕ) (z : ℤ) → SFits w32 z → non_neg z ≡ true → leb (nat_abs (to_z w32 (of_z w32 z))) limit ≡ non_neg z && leb (nat_abs z) limit
limit_test limit z f t = rw (to_z-of_z w32 z f, t)
