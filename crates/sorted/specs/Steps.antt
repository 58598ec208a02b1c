-- Indexes in the order of their keys, and the first place in it whose key is large enough.
use Rattle.std.specs.Prelude.{◌≡◌, Bool, cond, List, ℕ, ◌^◌, ◌≤◌, ◌<◌, length, get_or}

-- What is added to the keys of the second of two kinds, so that these stand behind all of the first.
abbrev pub offset : Bool → ℕ
offset first = cond first 0 (2 ^ 34)

-- The key of the index at a place of the order.
abbrev pub key_at : List ℕ → List ℕ → ℕ → ℕ
key_at keys order k = get_or keys (get_or order k 0) 0

-- The lists to sort in have room for the indexes below n, and these and their count fit 32 bits.
pub record SortRoom (n : ℕ) (os ws ks : List ℕ) : Type 0 where
  pub small : n < 2 ^ 32
  pub order : n ≤ length os
  pub work : n ≤ length ws
  pub keys : n ≤ length ks

-- A list begins with all indexes below n, in the order of their keys.
pub record InOrder (n : ℕ) (keys order : List ℕ) : Type 0 where
  pub small : n < 2 ^ 32
  pub order_room : n ≤ length order
  pub keys_room : n ≤ length keys
  pub known : (k : ℕ) → k < n → get_or order k 0 < n
  pub stands : (i : ℕ) → i < n → (k : ℕ) × (k < n) × (get_or order k 0 ≡ i)
  pub ascends : (k l : ℕ) → k < l → l < n → key_at keys order k ≤ key_at keys order l

-- r is the first of the n places whose key is at least the bound, and n where there is none.
pub record FirstAtLeast (n : ℕ) (keys order : List ℕ) (bound r : ℕ) : Type 0 where
  pub up_to : r ≤ n
  pub before : (k : ℕ) → k < r → key_at keys order k < bound
  pub behind : (k : ℕ) → r ≤ k → k < n → bound ≤ key_at keys order k
