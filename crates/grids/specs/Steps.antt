-- What the functions under `box_grids` say to each other; not needed to read the call's contract.
use Rattle.std.specs.Prelude.{◌≡◌, ℕ, ◌≤◌, List, map, length}
use Rattle.lists.specs.Lists.{concat, written}
use Rattle.sets.specs.Listing.{ends_from, ReadAs}
use Rattle.box_sets.specs.Boxes.{box_sets}
use Rattle.reading_order.specs.Reading.{reading_order}
use Rattle.grids.specs.Grids.{grid_numbers, grids, readings}
use Rattle.grids.specs.Lent.{Lent}

-- The grids among the first r sets were numbered from the front of a list.
pub record Chose (least : ℕ) (set : ℕ → List ℕ) (r : ℕ) (nu nu' : List ℕ) (g : ℕ) : Type 0 where
  pub grids : g ≡ length (grid_numbers least set r)
  pub numbers : nu' ≡ written (grid_numbers least set r) nu

-- Every list has room for n boxes: what question 14 shows.
pub record Roomy (n : ℕ) (l : Lent) : Type 0 where
  pub members : n ≤ length l.members
  pub ends : n ≤ length l.ends
  pub reading : n ≤ length l.reading
  pub numbers : n ≤ length l.numbers
  pub parents : n ≤ length l.parents
  pub work : n ≤ length l.work
  pub keys : n ≤ length l.keys

-- The work lists are as long as they were.
pub record WorkLong (l l' : Lent) : Type 0 where
  pub parents : length l'.parents ≡ length l.parents
  pub work : length l'.work ≡ length l.work
  pub keys : length l'.keys ≡ length l.keys

-- What the core leaves of the answers, and their counts; the lists give each set and its reading order back.
pub record Filled (rects : List ℕ) (limit least : ℕ) (l l' : Lent) (ss gs : ℕ) : Type 0 where
  pub set_count : ss ≡ length (box_sets rects limit)
  pub grid_count : gs ≡ length (grids least (box_sets rects limit))
  pub members : l'.members ≡ written (concat (box_sets rects limit)) l.members
  pub ends : l'.ends ≡ written (ends_from 0 (box_sets rects limit)) l.ends
  pub reading : l'.reading ≡ written (readings rects (box_sets rects limit)) l.reading
  pub numbers : l'.numbers ≡ written (grids least (box_sets rects limit)) l.numbers
  pub read : ReadAs (box_sets rects limit) l'.members l'.ends ss
  pub read_order : ReadAs (map (reading_order rects) (box_sets rects limit)) l'.reading l'.ends ss
