-- The lists that `segments` is lent, and the room that it asks of them.
use Rattle.std.specs.Prelude.{◌≡◌, ℕ, ◌*◌, Bool, ◌&&◌, List, Float, length, leb}
use Rattle.ruling_questions.specs.declared.lent.Lists.{Lists}

-- Their content, by name: of the rulings, with the sets of pieces, then work lists.
pub record Lent : Type 0 where
  pub rects : List ℕ
  pub directions : List ℕ
  pub contrasts : List Float
  pub piece_members : List ℕ
  pub piece_ends : List ℕ
  pub parents : List ℕ
  pub listed : List ℕ
  pub listed_ends : List ℕ
  pub work : List ℕ
  pub keys : List ℕ

-- The content of the lists of a struct.
abbrev pub lists_of : Lists → Lent
lists_of l =
    record {
      rects = l.rects.now;
      directions = l.directions.now;
      contrasts = l.contrasts.now;
      piece_members = l.piece_members.now;
      piece_ends = l.piece_ends.now;
      parents = l.parents.now;
      listed = l.listed.now;
      listed_ends = l.listed_ends.now;
      work = l.work.now;
      keys = l.keys.now;
    }

-- There is room for n rulings, and each index, member or work list has n entries.
abbrev pub room_for : ℕ → Lent → Bool
room_for n l =
    leb (4 * n) (length l.rects) && leb n (length l.directions) && leb n (length l.contrasts) && leb n (length l.piece_members)
    && leb n (length l.piece_ends) && leb n (length l.parents) && leb n (length l.listed) && leb n (length l.listed_ends)
    && leb n (length l.work) && leb n (length l.keys)

-- The struct still holds the lists that it held.
pub record Same (l l' : Lists) : Type 0 where
  pub rects : l'.rects.ghost_name ≡ l.rects.ghost_name
  pub directions : l'.directions.ghost_name ≡ l.directions.ghost_name
  pub contrasts : l'.contrasts.ghost_name ≡ l.contrasts.ghost_name
  pub piece_members : l'.piece_members.ghost_name ≡ l.piece_members.ghost_name
  pub piece_ends : l'.piece_ends.ghost_name ≡ l.piece_ends.ghost_name
  pub parents : l'.parents.ghost_name ≡ l.parents.ghost_name
  pub listed : l'.listed.ghost_name ≡ l.listed.ghost_name
  pub listed_ends : l'.listed_ends.ghost_name ≡ l.listed_ends.ghost_name
  pub work : l'.work.ghost_name ≡ l.work.ghost_name
  pub keys : l'.keys.ghost_name ≡ l.keys.ghost_name
