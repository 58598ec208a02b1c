-- Document 01's lines: positions in sorted order, cut where one exceeds the previous one by more than the line limit.
use Rattle.std.specs.Prelude.{Bool, cond, List, map, ℕ, zero, suc, ◌+◌, ltb, length, get_or}
use Rattle.order.specs.Order.{key_at, sorted_indexes}

-- The positions in sorted order.
abbrev pub sorted_positions : List ℕ → List ℕ
sorted_positions positions = map (key_at positions) (sorted_indexes positions)

-- A position exceeds the previous one by more than the limit.
abbrev pub exceeds : ℕ → ℕ → ℕ → Bool
exceeds limit previous position = ltb (previous + limit) position

-- The line of place k of a sorted list: the first place is on line 0, and a new line begins where a position exceeds the previous one by more
-- than the limit.
unfoldable pub line_at : ℕ → List ℕ → ℕ → ℕ
line_at limit sorted zero = 0
line_at limit sorted (suc k) = cond (exceeds limit (get_or sorted k 0) (get_or sorted (suc k) 0)) (suc (line_at limit sorted k)) (line_at limit sorted k)

-- How many lines the first n places of a sorted list make: the last line number plus one, and 0 for none.
unfoldable pub lines_to : ℕ → List ℕ → ℕ → ℕ
unfolding line_at
lines_to limit sorted zero = 0
lines_to limit sorted (suc k) = suc (line_at limit sorted k)

-- How many lines positions make.
abbrev pub line_count : ℕ → List ℕ → ℕ
line_count limit positions = lines_to limit (sorted_positions positions) (length positions)
