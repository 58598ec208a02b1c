-- What the functions of `reading_order` say to each other and to those above.
use Rattle.std.specs.Prelude.{ℕ, ◌≤◌, ◌<◌, List, map, length}
use Rattle.lists.specs.Lists.{In, below, concat}

-- A list of at most n indexes below n.
pub record Indexes (n : ℕ) (set : List ℕ) : Type 0 where
  pub within : (i : ℕ) → In set i → i < n
  pub short : length set ≤ n

-- The sets below a number: within the indexes below n, and together no more than n.
pub record SetsIn (n : ℕ) (set : ℕ → List ℕ) (r : ℕ) : Type 0 where
  pub few : r ≤ n
  pub inside : (k : ℕ) → k < r → Indexes n (set k)
  pub total : length (concat (map set (below r))) ≤ n

-- The three work lists of the reading order have room for n entries.
pub record WorkRoom (n o w k : ℕ) : Type 0 where
  pub order : n ≤ o
  pub work : n ≤ w
  pub keys : n ≤ k
