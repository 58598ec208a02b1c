-- What the functions of `read_findings` ask; none of it is needed to read the contracts.
use Rattle.std.specs.Prelude.{[], ℕ, ◌+◌, ◌*◌, ◌≤◌, ◌<◌, length, get_or}
use Rattle.finding_lists.specs.Columns.{Columns}

-- Every list has an entry i, as plain facts.
pub record Standing (l : Columns) (i : ℕ) : Type 0 where
  pub rects : 4 * i + 4 ≤ length l.rects
  pub facts : (k : ℕ) → k < 4 → i < length (get_or l.facts k [])
  pub scores : (k : ℕ) → k < 8 → i < length (get_or l.scores k [])
