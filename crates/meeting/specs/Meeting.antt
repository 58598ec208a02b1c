-- What rulings are to each other: which touch, the closed sets that they make, and which ends are joined. s gives the ruling at each index.
use Rattle.std.specs.Prelude.{◌≡◌, Bool, true, List, ℕ, ◌+◌, ◌*◌, pos, Float, length}
use Rattle.std.specs.Float.{binary64}
use Rattle.std.specs.Float.Ieee.{div, of_int}
use Rattle.lists.specs.Lists.{keep, any}
use Rattle.sets.specs.Listing.{closed_sets}
use Rattle.meeting.specs.declared.segment.Segment.{Segment}
use Rattle.meeting.specs.Segments.{touches, joins_end}

-- The rulings at two indexes touch.
abbrev pub touch : ℕ → (ℕ → Segment) → ℕ → ℕ → Bool
touch join s i j = touches join (s i) (s j)

-- The rule that `touch` decides.
abbrev pub Touch : ℕ → (ℕ → Segment) → ℕ → ℕ → Type 0
Touch join s i j = touch join s i j ≡ true

-- The closed sets of the chosen rulings.
abbrev pub ruling_sets : ℕ → (ℕ → Segment) → ℕ → List (List ℕ)
ruling_sets join s n = closed_sets n (touch join s)

-- An end of the ruling at index i is joined by a member of the set.
abbrev pub end_joined : ℕ → (ℕ → Segment) → List ℕ → ℕ → ℕ → Bool
end_joined join s set e i = any (λ j. joins_end join e (s i) (s j)) set

-- How many ends of members are joined.
unfoldable pub joined_ends : ℕ → (ℕ → Segment) → List ℕ → ℕ
joined_ends join s set = length (keep (λ i. end_joined join s set (s i).start i) set) + length (keep (λ i. end_joined join s set (s i).end i) set)

-- The joined share: joined ends over all ends, one division.
unfoldable pub share_of : ℕ → (ℕ → Segment) → List ℕ → Float
share_of join s set = div binary64 (of_int binary64 (pos (joined_ends join s set))) (of_int binary64 (pos (2 * length set)))
