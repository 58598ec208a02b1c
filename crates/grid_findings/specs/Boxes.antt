-- The boxes that grids' findings are made from, as they are lent: `findings` specs/Made has the sets by number.
use Rattle.std.specs.Prelude.{List, ℕ, Float}
use Rattle.sets.specs.Listing.{members_of}

-- The boxes, the listing of their sets, and the numbers of the sets that are grids.
pub record Boxes : Type 0 where
  pub rects : List ℕ
  pub marks : List ℕ
  pub coverages : List Float
  pub members : List ℕ
  pub ends : List ℕ
  pub count : ℕ
  pub grids : List ℕ

-- The members of each set.
abbrev pub sets_of : Boxes → ℕ → List ℕ
sets_of b = members_of b.members b.ends b.count
