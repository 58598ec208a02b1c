-- What the steps of `table_lists` ask and leave; none of it is needed to read the contract of `tables`.
use Rattle.std.specs.Prelude.{◌≡◌, List, map, ℕ, ◌≤◌, ◌<◌, Float, length, get_or}
use Rattle.lists.specs.Lists.{below, concat, written}
use Rattle.meeting.specs.declared.segment.Segment.{Segment}
use Rattle.shapes.specs.declared.limits.Limits.{Limits}
use Rattle.shapes.specs.Shapes.{rows_of, columns_of}
use Rattle.meeting.specs.Meeting.{share_of}
use Rattle.table_lists.specs.Answers.{table_numbers, free_list, bounds_of}
use Rattle.meeting.specs.Steps.{IndexesBelow}

-- The sets below a count: not empty, within the indexes below n, and no more of both than n.
pub record SetsIn (n : ℕ) (set : ℕ → List ℕ) (count : ℕ) : Type 0 where
  pub few : count ≤ n
  pub inside : (k : ℕ) → k < count → IndexesBelow n (set k)
  pub some : (k : ℕ) → k < count → 0 < length (set k)
  pub total : length (concat (map set (below count))) ≤ n

-- The first numbers of a list are below the count.
pub record Numbers (l : List ℕ) (tables count : ℕ) : Type 0 where
  pub room : tables ≤ length l
  pub low : (t : ℕ) → t < tables → get_or l t 0 < count

-- Seven lists have room for n entries.
pub record Rooms (n a b c d e f g : ℕ) : Type 0 where
  pub keys : n ≤ a
  pub order : n ≤ b
  pub work : n ≤ c
  pub numbers : n ≤ d
  pub rows : n ≤ e
  pub columns : n ≤ f
  pub free : n ≤ g

-- The sets were gone through: numbers, rows and columns of the tables, and the free list, each from the front.
pub record Chose (lim : Limits) (s : ℕ → Segment) (set : ℕ → List ℕ) (count : ℕ) (nu ro co fr nu' ro' co' fr' : List ℕ) (t f : ℕ) : Type 0 where
  pub tables : t ≡ length (table_numbers lim s set count)
  pub free : f ≡ length (free_list lim s set count)
  pub numbers : nu' ≡ written (table_numbers lim s set count) nu
  pub rows : ro' ≡ written (map (λ k. rows_of lim s (set k)) (table_numbers lim s set count)) ro
  pub columns : co' ≡ written (map (λ k. columns_of lim s (set k)) (table_numbers lim s set count)) co
  pub free_list : fr' ≡ written (free_list lim s set count) fr

-- The rectangles of the sets with the given numbers were written from the front.
pub record Bounded (rects chosen : List ℕ) (set : ℕ → List ℕ) (numbers out out' : List ℕ) : Type 0 where
  pub content : out' ≡ written (concat (map (λ k. bounds_of rects chosen (set k)) numbers)) out

-- The sizes and joined shares of the sets with the given numbers were written from the front.
pub record Measured (join : ℕ) (s : ℕ → Segment) (set : ℕ → List ℕ) (numbers ru : List ℕ) (sh : List Float) (ru' : List ℕ) (sh' : List Float) : Type 0 where
  pub rulings : ru' ≡ written (map (λ k. length (set k)) numbers) ru
  pub shares : sh' ≡ written (map (λ k. share_of join s (set k)) numbers) sh
