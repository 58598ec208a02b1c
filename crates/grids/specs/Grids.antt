-- Document 01's grids: the closed sets of boxes that reach the grid minimum.
use Rattle.std.specs.Prelude.{ℕ, Bool, List, [], map, length, nat_le, slice_index_or}
use Rattle.lists.specs.Lists.{below, keep, concat}
use Rattle.reading_order.specs.Reading.{reading_order}

-- A set reaches the grid minimum: it has at least grid_min_boxes members.
abbrev pub is_grid : ℕ → List ℕ → Bool
is_grid least set = nat_le least (length set)

-- The numbers of the sets that are grids, among the first n of a listing.
unfoldable pub grid_numbers : ℕ → (ℕ → List ℕ) → ℕ → List ℕ
grid_numbers least set n = keep (λ k. is_grid least (set k)) (below n)

-- The grids, each by the number of its set.
abbrev pub grids : ℕ → List (List ℕ) → List ℕ
grids least ss = grid_numbers least (λ k. slice_index_or ss k []) (length ss)

-- The reading orders of the sets, strung together: each set has the same places as in the list of members.
abbrev pub readings : List ℕ → List (List ℕ) → List ℕ
readings rects ss = concat (map (reading_order rects) ss)
