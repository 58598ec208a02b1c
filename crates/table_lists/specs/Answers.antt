-- What `tables` finds in a listing of the closed sets, which gives the set of each number below a count.
use Rattle.std.specs.Prelude.{not, List, map, ℕ, get_or}
use Rattle.lists.specs.Lists.{below, keep, concat}
use Rattle.rects.specs.Rects.{numbers_of}
use Rattle.rects.specs.Around.{around}
use Rattle.meeting.specs.declared.segment.Segment.{Segment}
use Rattle.shapes.specs.declared.limits.Limits.{Limits}
use Rattle.shapes.specs.Shapes.{is_table}

-- The numbers of the sets that are tables.
unfoldable pub table_numbers : Limits → (ℕ → Segment) → (ℕ → List ℕ) → ℕ → List ℕ
table_numbers lim s set count = keep (λ k. is_table lim s (set k)) (below count)

-- The numbers of the sets that are not.
unfoldable pub free_numbers : Limits → (ℕ → Segment) → (ℕ → List ℕ) → ℕ → List ℕ
free_numbers lim s set count = keep (λ k. not (is_table lim s (set k))) (below count)

-- The free list: the refused sets strung in order.
abbrev pub free_list : Limits → (ℕ → Segment) → (ℕ → List ℕ) → ℕ → List ℕ
free_list lim s set count = concat (map set (free_numbers lim s set count))

-- The places of a set's rulings in the lists.
abbrev pub places_of : List ℕ → List ℕ → List ℕ
places_of chosen set = map (λ i. get_or chosen i 0) set

-- The smallest rectangle around a set, as four numbers.
abbrev pub bounds_of : List ℕ → List ℕ → List ℕ → List ℕ
bounds_of rects chosen set = numbers_of (around rects (places_of chosen set))
