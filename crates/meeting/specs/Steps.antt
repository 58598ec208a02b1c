-- What the functions over rulings ask.
use Rattle.std.specs.Prelude.{List, ℕ, ◌+◌, ◌*◌, ◌≤◌, ◌<◌, length, get_or}
use Rattle.lists.specs.Lists.{In}
use Rattle.rects.specs.Rects as Rects
use Rattle.rects.specs.Steps.{Inside}

-- The chosen places have a rectangle, ordered and with coordinates below 8,192, and a direction each, and there are at most 4,096.
pub record Given (rects directions chosen : List ℕ) : Type 0 where
  pub inside : (i : ℕ) → i < length chosen → Inside 8192 8192 (Rects.rect_at rects (get_or chosen i 0))
  pub rect : (i : ℕ) → i < length chosen → 4 * get_or chosen i 0 + 4 ≤ length rects
  pub direction : (i : ℕ) → i < length chosen → get_or chosen i 0 < length directions
  pub few : length chosen ≤ 4096

-- A list of at most n indexes below n.
pub record IndexesBelow (n : ℕ) (set : List ℕ) : Type 0 where
  pub within : (i : ℕ) → In set i → i < n
  pub short : length set ≤ n
