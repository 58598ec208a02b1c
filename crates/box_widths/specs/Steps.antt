-- What the functions of `box_widths` ask; none of it is needed to read the contracts.
use Rattle.std.specs.Prelude.{List, ℕ, ◌≤◌, ◌<◌}
use Rattle.rects.specs.Rects.{count, rect_at}
use Rattle.rects.specs.Steps.{Inside}

-- The boxes have passed questions 5 and 6.
pub record PassedBoxes (rects : List ℕ) : Type 0 where
  pub inside : (k : ℕ) → k < count rects → Inside 8192 8192 (rect_at rects k)
  pub few : count rects ≤ 16384
