-- The lists that `box_grids` is lent, and the room that it asks of them.
use Rattle.std.specs.Prelude.{◌≡◌, ℕ, Bool, ◌&&◌, List, length, nat_le}
use Rattle.grids.specs.declared.lent.Lists.{Lists}

-- Their content, by name: answers, then work lists.
pub record Lent : Type 0 where
  pub members : List ℕ
  pub ends : List ℕ
  pub reading : List ℕ
  pub numbers : List ℕ
  pub parents : List ℕ
  pub work : List ℕ
  pub keys : List ℕ

-- The content of the lists of a struct.
abbrev pub lists_of : Lists → Lent
lists_of l =
    record {
      members = l.members.now;
      ends = l.ends.now;
      reading = l.reading.now;
      numbers = l.numbers.now;
      parents = l.parents.now;
      work = l.work.now;
      keys = l.keys.now;
    }

-- Each list has room for n entries.
abbrev pub room_for : ℕ → Lent → Bool
room_for n l =
    nat_le n (length l.members) && nat_le n (length l.ends) && nat_le n (length l.reading) && nat_le n (length l.numbers)
    && nat_le n (length l.parents) && nat_le n (length l.work) && nat_le n (length l.keys)

-- The struct still holds the lists that it held.
pub record Same (l l' : Lists) : Type 0 where
  pub members : l'.members.ghost_name ≡ l.members.ghost_name
  pub ends : l'.ends.ghost_name ≡ l.ends.ghost_name
  pub reading : l'.reading.ghost_name ≡ l.reading.ghost_name
  pub numbers : l'.numbers.ghost_name ≡ l.numbers.ghost_name
  pub parents : l'.parents.ghost_name ≡ l.parents.ghost_name
  pub work : l'.work.ghost_name ≡ l.work.ghost_name
  pub keys : l'.keys.ghost_name ≡ l.keys.ghost_name
