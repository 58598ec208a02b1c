-- What a call that lists sets answers, here and in `pairs`.
use Rattle.std.specs.Prelude.{◌≡◌, Bool, false, cond, ◌&&◌, List, ℕ, ◌^◌, leb, ltb, length}
use Rattle.lists.specs.Lists.{concat, written}
use Rattle.sets.specs.Listing.{ends_from}

-- Each of four lists has room for n entries, and n fits 32 bits.
abbrev pub room_for : ℕ → ℕ → ℕ → ℕ → ℕ → Bool
room_for n a b c d = ltb n (2 ^ 32) && leb n a && leb n b && leb n c && leb n d

-- What a call that lists sets leaves: accepted, 0, the sets strung together, their ends and their count; refused, 1, and every list as it was.
pub record Answered (fits : Bool) (ss : List (List ℕ)) (p m e w p' m' e' w' : List ℕ) (r k : ℕ) : Type 0 where
  pub number : r ≡ cond fits 0 1
  pub count : k ≡ cond fits (length ss) 0
  pub members : m' ≡ cond fits (written (concat ss) m) m
  pub ends : e' ≡ cond fits (written (ends_from 0 ss) e) e
  pub parents_kept : fits ≡ false → p' ≡ p
  pub work_kept : fits ≡ false → w' ≡ w
