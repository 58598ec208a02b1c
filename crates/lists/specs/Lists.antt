-- Lists of indexes, and lent lists that are written from the front.
use Rattle.std.specs.Prelude.{Bool, true, false, cond, ◌&&◌, ◌||◌, ℕ, zero, suc, length, drop}
use mathlib.Core.List.{List, [], ◌∷◌, ◌++◌, Memᴰ}

-- The numbers below n, in order.
abbrev pub below : ℕ → List ℕ
below zero = []
below (suc n) = below n ++ (n ∷ [])

-- A number is an entry of a list.
abbrev pub In : List ℕ → ℕ → Type 0
In s i = Memᴰ i s

-- Every number below n passes a test.
unfoldable pub every_below : ℕ → (ℕ → Bool) → Bool
every_below zero q = true
every_below (suc n) q = every_below n q && q n

-- 1 for a test that passes, and 0 for one that fails.
abbrev pub one : Bool → ℕ
one true = 1
one false = 0

module _ {A : Type 0} where
  -- The entries of a list that pass a test, in their order.
  abbrev pub keep : (A → Bool) → List A → List A
  keep q [] = []
  keep q (x ∷ xs) = cond (q x) (x ∷ keep q xs) (keep q xs)

  -- Does an entry pass the test?
  abbrev pub any : (A → Bool) → List A → Bool
  any q [] = false
  any q (x ∷ xs) = q x || any q xs

  -- The lists of a list, strung together.
  abbrev pub concat : List (List A) → List A
  concat [] = []
  concat (s ∷ ss) = s ++ concat ss

  -- A lent list to which xs was written from the front: places past xs keep their content.
  abbrev pub written : List A → List A → List A
  written xs lent = xs ++ drop (length xs) lent
