-- What the functions of `sums` ask and leave; none of it is needed to read the contracts.
use Rattle.std.specs.Prelude.{ℕ, ◌≤◌, ◌<◌, ◌≡◌, ℤ, pos, nat_abs, Float, List, length, get_or}

-- z is a whole number from 0 to n.
pub record UpTo (n : ℕ) (z : ℤ) : Type 0 where
  pub is : z ≡ pos (nat_abs z)
  pub at_most : nat_abs z ≤ n

-- Each of these places is in the list.
abbrev pub PlacesIn : List Float → List ℕ → Type 0
PlacesIn values places = (k : ℕ) → k < length places → get_or places k 0 < length values
