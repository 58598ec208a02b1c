-- What the functions under `tables` say to each other; none of it is needed to read the call's contract.
use Rattle.std.specs.Prelude.{◌≡◌, ℕ, ◌*◌, ◌≤◌, List, length}
use Rattle.lists.specs.Lists.{concat, written}
use Rattle.sets.specs.Listing.{ends_from, ReadAs}
use Rattle.shapes.specs.declared.limits.Limits.{Limits}
use Rattle.table_questions.specs.Lent.{Lists}
use Rattle.tables.specs.Call.{Lent, all_sets, tables, free, bounds, rows, columns, rulings, shares}

-- The lists of the call, from those of the struct and the places of the chosen rulings.
abbrev pub with_chosen : Lists → List ℕ → Lent
with_chosen l chosen =
    record {
      printed_members = l.members;
      printed_ends = l.ends;
      numbers = l.numbers;
      bounds = l.bounds;
      rows = l.rows;
      columns = l.columns;
      rulings = l.rulings;
      shares = l.shares;
      free = l.free;
      chosen = chosen;
      parents = l.parents;
      work = l.work;
      keys = l.keys;
    }

-- What `inner` leaves of the answers, and their counts; the lists give each set back.
pub record Filled (rects directions chosen : List ℕ) (lim : Limits) (l l' : Lists) (ss ts fs : ℕ) : Type 0 where
  pub set_count : ss ≡ length (all_sets rects directions chosen lim)
  pub table_count : ts ≡ length (tables rects directions chosen lim)
  pub free_count : fs ≡ length (free rects directions chosen lim)
  pub members : l'.members ≡ written (concat (all_sets rects directions chosen lim)) l.members
  pub ends : l'.ends ≡ written (ends_from 0 (all_sets rects directions chosen lim)) l.ends
  pub numbers : l'.numbers ≡ written (tables rects directions chosen lim) l.numbers
  pub bounds : l'.bounds ≡ written (bounds rects directions chosen lim) l.bounds
  pub rows : l'.rows ≡ written (rows rects directions chosen lim) l.rows
  pub columns : l'.columns ≡ written (columns rects directions chosen lim) l.columns
  pub rulings : l'.rulings ≡ written (rulings rects directions chosen lim) l.rulings
  pub shares : l'.shares ≡ written (shares rects directions chosen lim) l.shares
  pub free : l'.free ≡ written (free rects directions chosen lim) l.free
  pub read : ReadAs (all_sets rects directions chosen lim) l'.members l'.ends ss

-- The work lists are as long as they were.
pub record WorkLong (l l' : Lists) : Type 0 where
  pub parents : length l'.parents ≡ length l.parents
  pub work : length l'.work ≡ length l.work
  pub keys : length l'.keys ≡ length l.keys

-- Every list has room for n rulings or as many tables: what question 14 shows.
pub record Roomy (n : ℕ) (l : Lists) : Type 0 where
  pub members : n ≤ length l.members
  pub ends : n ≤ length l.ends
  pub numbers : n ≤ length l.numbers
  pub bounds : 4 * n ≤ length l.bounds
  pub rows : n ≤ length l.rows
  pub columns : n ≤ length l.columns
  pub rulings : n ≤ length l.rulings
  pub shares : n ≤ length l.shares
  pub free : n ≤ length l.free
  pub parents : n ≤ length l.parents
  pub work : n ≤ length l.work
  pub keys : n ≤ length l.keys
