-- What `tables` promises, for accepted and for refused input, with demand 3 for printed rulings.
use Rattle.std.specs.Prelude.{◌≡◌, ℕ, ◌*◌, ◌<◌, Bool, cond, not, ◌&&◌, List, [], map, length, ◌==◌, ◌≢◌, nat_le, slice_index_or}
use Rattle.std.specs.Prelude.{Float}
use Rattle.lists.specs.Lists.{below, concat, written}
use Rattle.sets.specs.Closed.{Below, Listed, ListedWhere}
use Rattle.sets.specs.Listing.{ends_from, ReadAs}
use Rattle.questions.specs.Questions.{Question, first_missed}
use Rattle.params.specs.declared.settings.RulingsParams.{RulingsParams}
use Rattle.params.specs.Limits.{IsLimit}
use Rattle.rects.specs.Rects.{count}
use Rattle.rects.specs.Around.{around, Smallest}
use Rattle.shapes.specs.declared.limits.Limits as Shapes
use Rattle.meeting.specs.Segments.{ruling_at}
use Rattle.meeting.specs.Meeting.{Touch, share_of, ruling_sets}
use Rattle.shapes.specs.Shapes.{is_table, rows_of, columns_of}
use Rattle.table_lists.specs.Answers.{table_numbers, free_numbers, free_list, places_of, bounds_of}
use Rattle.shapes.specs.Limits.{table_limits_of}
use Rattle.table_questions.specs.Questions.{table_questions}
use Rattle.tables.specs.declared.Answer.{Answer}

-- What the call is given: the x-height, the settings, and the rulings by rectangle and direction, each of which counts as printed.
pub record Given : Type 0 where
  pub xheight : Float
  pub settings : RulingsParams
  pub rects : List ℕ
  pub directions : List ℕ

-- The lists that it is lent: the sets of rulings, the numbers of those that are tables, what is listed of each table, the free list; then work lists.
pub record Lent : Type 0 where
  pub printed_members : List ℕ
  pub printed_ends : List ℕ
  pub numbers : List ℕ
  pub bounds : List ℕ
  pub rows : List ℕ
  pub columns : List ℕ
  pub rulings : List ℕ
  pub shares : List Float
  pub free : List ℕ
  pub chosen : List ℕ
  pub parents : List ℕ
  pub work : List ℕ
  pub keys : List ℕ

-- Question 14: there is room for as many tables as rulings, and each index, member or work list has one entry a ruling.
abbrev pub has_room : Given → Lent → Bool
has_room g l =
    let n = count g.rects in
    nat_le n (length l.numbers) && nat_le (4 * n) (length l.bounds) && nat_le n (length l.rows) && nat_le n (length l.columns)
    && nat_le n (length l.rulings) && nat_le n (length l.shares) && nat_le n (length l.printed_members) && nat_le n (length l.printed_ends)
    && nat_le n (length l.free) && nat_le n (length l.chosen) && nat_le n (length l.parents) && nat_le n (length l.work) && nat_le n (length l.keys)

-- The questions that it puts, in document 01's order.
abbrev pub questions : Given → Lent → List Question
questions g l = table_questions g.xheight g.settings g.rects g.directions (has_room g l)

-- What is found among the chosen rulings, given the closed sets: the answers, list by list.
module _ (rects directions chosen : List ℕ) (lim : Shapes.Limits) where
  -- the closed sets of the chosen rulings, by smallest index
  abbrev pub all_sets : List (List ℕ)
  all_sets = ruling_sets lim.join (ruling_at rects directions chosen) (length chosen)

  -- set k, empty for a number at or past the count
  abbrev pub set_at : ℕ → List ℕ
  set_at k = slice_index_or all_sets k []

  -- the numbers of the tables' sets
  abbrev pub tables : List ℕ
  tables = table_numbers lim (ruling_at rects directions chosen) set_at (length all_sets)

  -- the refused sets strung in order
  abbrev pub free : List ℕ
  free = free_list lim (ruling_at rects directions chosen) set_at (length all_sets)

  -- each table's smallest rectangle, four numbers each
  abbrev pub bounds : List ℕ
  bounds = concat (map (λ k. bounds_of rects chosen (set_at k)) tables)

  -- each table's rows, columns, number of rulings and joined share
  abbrev pub rows : List ℕ
  rows = map (λ k. rows_of lim (ruling_at rects directions chosen) (set_at k)) tables

  abbrev pub columns : List ℕ
  columns = map (λ k. columns_of lim (ruling_at rects directions chosen) (set_at k)) tables

  abbrev pub rulings : List ℕ
  rulings = map (λ k. length (set_at k)) tables

  abbrev pub shares : List Float
  shares = map (λ k. share_of lim.join (ruling_at rects directions chosen) (set_at k)) tables

  -- Demand 3 for printed rulings: a set is listed exactly when it is closed, and then once; the tables are exactly the closed sets with the set
  -- minima and two lines each way, each once; the free list is made of all others, each once and whole, and of nothing else.
  pub record Demand3 : Type 0 where
    pub listed : Listed (Below (length chosen)) (Touch lim.join (ruling_at rects directions chosen)) all_sets
    pub each_table :
        ListedWhere (Below (length chosen)) (Touch lim.join (ruling_at rects directions chosen)) (is_table lim (ruling_at rects directions chosen))
        (map set_at tables)
    pub each_free :
        ListedWhere (Below (length chosen)) (Touch lim.join (ruling_at rects directions chosen)) (λ s. not (is_table lim (ruling_at rects directions chosen) s))
        (map set_at (free_numbers lim (ruling_at rects directions chosen) set_at (length all_sets)))
    pub smallest : (k : ℕ) → k < length all_sets → Smallest rects (places_of chosen (set_at k)) (around rects (places_of chosen (set_at k)))

-- The places of all rulings that are given, and the limits that the settings and the x-height give.
abbrev pub places : Given → List ℕ
places g = below (count g.rects)

abbrev pub table_limits : Given → Shapes.Limits
table_limits g = table_limits_of g.settings g.xheight

-- What an accepted call leaves: each list is its definition, written from the front, and places past it keep their content.
pub record Answers (g : Given) (l l' : Lent) : Type 0 where
  pub printed_members : l'.printed_members ≡ written (concat (all_sets g.rects g.directions (places g) (table_limits g))) l.printed_members
  pub printed_ends : l'.printed_ends ≡ written (ends_from 0 (all_sets g.rects g.directions (places g) (table_limits g))) l.printed_ends
  pub numbers : l'.numbers ≡ written (tables g.rects g.directions (places g) (table_limits g)) l.numbers
  pub bounds : l'.bounds ≡ written (bounds g.rects g.directions (places g) (table_limits g)) l.bounds
  pub rows : l'.rows ≡ written (rows g.rects g.directions (places g) (table_limits g)) l.rows
  pub columns : l'.columns ≡ written (columns g.rects g.directions (places g) (table_limits g)) l.columns
  pub rulings : l'.rulings ≡ written (rulings g.rects g.directions (places g) (table_limits g)) l.rulings
  pub shares : l'.shares ≡ written (shares g.rects g.directions (places g) (table_limits g)) l.shares
  pub free : l'.free ≡ written (free g.rects g.directions (places g) (table_limits g)) l.free

-- The limits are the rounded products, not below 0.
pub record Limits (g : Given) : Type 0 where
  pub join : IsLimit g.settings.join_tol_xh g.xheight
  pub line : IsLimit g.settings.line_cluster_xh g.xheight

-- An accepted call: the number 0, and how many sets, tables and free rulings there are.
abbrev pub accepted : Given → Answer
accepted g =
    record {
      number = 0;
      sets = length (all_sets g.rects g.directions (places g) (table_limits g));
      tables = length (tables g.rects g.directions (places g) (table_limits g));
      free = length (free g.rects g.directions (places g) (table_limits g));
    }

-- A refused call: the number of the missed question, and every count 0.
abbrev pub refusal : ℕ → Answer
refusal number = record { number = number; sets = 0; tables = 0; free = 0 }

-- What a call of `tables` promises: the number of the first missed question; the counts, all 0 where one is missed; a refused call leaves every
-- list, work lists too; an accepted one leaves the answers, and demand 3 holds of the lists as they are read.
pub record Tables (g : Given) (l l' : Lent) (a : Answer) : Type 0 where
  pub number : a.number ≡ first_missed (questions g l)
  pub counts : a ≡ cond (a.number == 0) (accepted g) (refusal a.number)
  pub refused : (a.number ≢ 0) → l' ≡ l
  pub answers : a.number ≡ 0 → Answers g l l'
  pub limits : a.number ≡ 0 → Limits g
  pub demand3 :
      a.number ≡ 0
      → Demand3 g.rects g.directions (places g) (table_limits g)
      × ReadAs (all_sets g.rects g.directions (places g) (table_limits g)) l'.printed_members l'.printed_ends a.sets
