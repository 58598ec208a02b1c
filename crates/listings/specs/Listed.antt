-- The sets of a listing that is read.
use Rattle.std.specs.Prelude.{ℕ, List}
use Rattle.sets.specs.Listing.{members_of}
use Rattle.listings.specs.declared.listed.Sets.{Sets}

-- The members of each set, by its number.
abbrev pub set_of : Sets → ℕ → List ℕ
set_of s = members_of s.members.now s.ends.now s.count
