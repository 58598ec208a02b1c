-- What the functions of `lines` ask and leave; none of it is needed to read the contracts.
use Rattle.std.specs.Prelude.{◌≡◌, List, map, ℕ, ◌≤◌, ◌<◌, ◌^◌, length, take}
use Rattle.lists.specs.Lists.{below, written}
use Rattle.order.specs.Order.{sorted_indexes}
use Rattle.lines.specs.Lines.{sorted_positions, line_at, line_count}

-- The line number of each position, in sorted order.
abbrev pub line_numbers : ℕ → List ℕ → List ℕ
line_numbers limit positions = map (line_at limit (sorted_positions positions)) (below (length positions))

-- Two lists have room for n numbers of 32 bits.
pub record Room (n : ℕ) (o l : List ℕ) : Type 0 where
  pub small : n < 2 ^ 32
  pub order : n ≤ length o
  pub numbers : n ≤ length l

-- The list begins with the positions' indexes in sorted order.
pub record Ordered (positions o : List ℕ) : Type 0 where
  pub long : length positions ≤ length o
  pub sorted : take (length positions) o ≡ sorted_indexes positions

-- What `number` leaves, given the positions' order: the line numbers from the front, and their count.
pub record Lined (positions : List ℕ) (limit : ℕ) (l l' : List ℕ) (r : ℕ) : Type 0 where
  pub numbers : l' ≡ written (line_numbers limit positions) l
  pub count : r ≡ line_count limit positions

-- What `lines` leaves: the indexes of the positions in sorted order, beside them the line number of each, and the count. The list of indexes is
-- kept past the positions, that of line numbers is free there.
pub record Numbered (positions : List ℕ) (limit : ℕ) (o o' l' : List ℕ) (r : ℕ) : Type 0 where
  pub order : o' ≡ written (sorted_indexes positions) o
  pub numbers : take (length positions) l' ≡ line_numbers limit positions
  pub count : r ≡ line_count limit positions
