-- The lists that `tables` is lent, but for the places of the chosen rulings, and the room that it asks of them.
use Rattle.std.specs.Prelude.{◌≡◌, ℕ, ◌*◌, Bool, ◌&&◌, List, Float, length, nat_le}
use Rattle.table_questions.specs.declared.lent.Lists as Struct

-- Their content, by name: answers, then work lists.
pub record Lists : Type 0 where
  pub members : List ℕ
  pub ends : List ℕ
  pub numbers : List ℕ
  pub bounds : List ℕ
  pub rows : List ℕ
  pub columns : List ℕ
  pub rulings : List ℕ
  pub shares : List Float
  pub free : List ℕ
  pub parents : List ℕ
  pub work : List ℕ
  pub keys : List ℕ

-- The content of the lists of a struct.
abbrev pub lists_of : Struct.Lists → Lists
lists_of l =
    record {
      members = l.members.now;
      ends = l.ends.now;
      numbers = l.numbers.now;
      bounds = l.bounds.now;
      rows = l.rows.now;
      columns = l.columns.now;
      rulings = l.rulings.now;
      shares = l.shares.now;
      free = l.free.now;
      parents = l.parents.now;
      work = l.work.now;
      keys = l.keys.now;
    }

-- There is room for n tables, and each index, member or work list has n entries, with that of the chosen rulings.
abbrev pub room_for : ℕ → Lists → List ℕ → Bool
room_for n l chosen =
    nat_le n (length l.numbers) && nat_le (4 * n) (length l.bounds) && nat_le n (length l.rows) && nat_le n (length l.columns)
    && nat_le n (length l.rulings) && nat_le n (length l.shares) && nat_le n (length l.members) && nat_le n (length l.ends)
    && nat_le n (length l.free) && nat_le n (length chosen) && nat_le n (length l.parents) && nat_le n (length l.work) && nat_le n (length l.keys)

-- The struct still holds the lists that it held.
pub record Same (l l' : Struct.Lists) : Type 0 where
  pub members : l'.members.ghost_name ≡ l.members.ghost_name
  pub ends : l'.ends.ghost_name ≡ l.ends.ghost_name
  pub numbers : l'.numbers.ghost_name ≡ l.numbers.ghost_name
  pub bounds : l'.bounds.ghost_name ≡ l.bounds.ghost_name
  pub rows : l'.rows.ghost_name ≡ l.rows.ghost_name
  pub columns : l'.columns.ghost_name ≡ l.columns.ghost_name
  pub rulings : l'.rulings.ghost_name ≡ l.rulings.ghost_name
  pub shares : l'.shares.ghost_name ≡ l.shares.ghost_name
  pub free : l'.free.ghost_name ≡ l.free.ghost_name
  pub parents : l'.parents.ghost_name ≡ l.parents.ghost_name
  pub work : l'.work.ghost_name ≡ l.work.ghost_name
  pub keys : l'.keys.ghost_name ≡ l.keys.ghost_name
