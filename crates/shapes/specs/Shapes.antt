-- Document 01's tables: which sets of rulings are tables, and the rows and columns of each. s gives the ruling at each index.
use Rattle.std.specs.Prelude.{Bool, true, false, cond, not, ◌&&◌, List, map, ℕ, ◌-◌, ◌/◌, leb, length}
use Rattle.lists.specs.Lists.{keep}
use Rattle.lines.specs.Lines.{line_count}
use Rattle.meeting.specs.declared.segment.Segment.{Segment}
use Rattle.shapes.specs.declared.limits.Limits.{Limits}

-- A ruling has a direction: true for horizontal.
abbrev pub in_direction : Bool → Segment → Bool
in_direction horizontal a = cond horizontal a.horizontal (not a.horizontal)

-- The members of a set in a direction.
abbrev pub members : Bool → (ℕ → Segment) → List ℕ → List ℕ
members horizontal s set = keep (λ i. in_direction horizontal (s i)) set

-- Their line positions: doubled centres halved downward.
abbrev pub positions : Bool → (ℕ → Segment) → List ℕ → List ℕ
positions horizontal s set = map (λ i. (s i).centre2 / 2) (members horizontal s set)

-- How many lines the members in a direction make.
unfoldable pub lines_of : ℕ → Bool → (ℕ → Segment) → List ℕ → ℕ
lines_of cluster horizontal s set = line_count cluster (positions horizontal s set)

-- The set minima: enough horizontals and enough verticals.
abbrev pub has_minima : Limits → (ℕ → Segment) → List ℕ → Bool
has_minima lim s set = leb lim.min_horizontal (length (members true s set)) && leb lim.min_vertical (length (members false s set))

-- Two lines each way.
abbrev pub has_two_lines : Limits → (ℕ → Segment) → List ℕ → Bool
has_two_lines lim s set = leb 2 (lines_of lim.cluster true s set) && leb 2 (lines_of lim.cluster false s set)

-- A closed set is a table when it has the set minima and two lines each way.
unfoldable pub is_table : Limits → (ℕ → Segment) → List ℕ → Bool
is_table lim s set = has_minima lim s set && has_two_lines lim s set

-- Rows and columns are lines minus one.
abbrev pub rows_of : Limits → (ℕ → Segment) → List ℕ → ℕ
rows_of lim s set = lines_of lim.cluster true s set - 1

abbrev pub columns_of : Limits → (ℕ → Segment) → List ℕ → ℕ
columns_of lim s set = lines_of lim.cluster false s set - 1
