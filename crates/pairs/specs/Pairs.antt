-- Pairs of indexes, two numbers each, and the closed sets that they make.
use Rattle.std.specs.Prelude.{◌≡◌, Bool, true, ◌&&◌, List, ℕ, ◌+◌, ◌*◌, ◌/◌, ◌<◌, ltb, eqb, length, get_or}
use Rattle.lists.specs.Lists.{below, any, every_below}
use Rattle.gaps.specs.Answers.{room_for}
use Rattle.sets.specs.Closed.{Below, Listed}
use Rattle.sets.specs.Listing.{closed_sets}
use Rattle.gaps.specs.Answers.{Answered}

-- i and j are one of the first m pairs.
abbrev pub paired : List ℕ → ℕ → ℕ → ℕ → Bool
paired pairs m i j = any (λ k. eqb (get_or pairs (2 * k) 0) i && eqb (get_or pairs (2 * k + 1) 0) j) (below m)

-- The rule that `paired` decides.
abbrev pub Paired : List ℕ → ℕ → ℕ → ℕ → Type 0
Paired pairs m i j = paired pairs m i j ≡ true

-- Every number of the list is an index below n.
abbrev pub indexes_below : ℕ → List ℕ → Bool
indexes_below n pairs = every_below (length pairs) (λ i. ltb (get_or pairs i 0) n)

abbrev pub IndexesBelow : ℕ → List ℕ → Type 0
IndexesBelow n pairs = (i : ℕ) → i < length pairs → get_or pairs i 0 < n

-- The call is accepted: there is room, and every index is below n.
abbrev pub accepts : ℕ → List ℕ → List ℕ → List ℕ → List ℕ → List ℕ → Bool
accepts n pairs p m e w = room_for n (length p) (length m) (length e) (length w) && indexes_below n pairs

-- The closed sets of the indexes below n.
abbrev pub pair_sets : ℕ → List ℕ → List (List ℕ)
pair_sets n pairs = closed_sets n (paired pairs (length pairs / 2))

-- Accepted, the closed sets are listed; refused, 1 is returned and nothing is written.
pub record PairSets (n : ℕ) (pairs p m e w p' m' e' w' : List ℕ) (r k : ℕ) : Type 0 where
  pub answered : Answered (accepts n pairs p m e w) (pair_sets n pairs) p m e w p' m' e' w' r k
  -- each set that is listed is closed, and each closed set is listed once
  pub listed : Listed (Below n) (Paired pairs (length pairs / 2)) (pair_sets n pairs)
