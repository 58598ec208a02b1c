-- Closed sets, as document 01 has them: sets of indexes of a domain D, over any rule R of two indexes.
use Rattle.std.specs.Prelude.{◌≡◌, Bool, true, ◌⊎◌, List, [], ◌∷◌, ℕ, ◌<◌, length, get_or}
use Rattle.lists.specs.Lists.{In}

-- The domain of all indexes below n.
abbrev pub Below : ℕ → ℕ → Type 0
Below n i = i < n

-- Two indexes touch when the rule holds of them, either way round: document 01's touching.
abbrev pub Touching : (ℕ → ℕ → Type 0) → ℕ → ℕ → Type 0
Touching R i j = R i j ⊎ R j i

-- A chain of touching members of S leads from i to j: connectedness.
pub data Chain (S : ℕ → Type 0) (R : ℕ → ℕ → Type 0) : ℕ → ℕ → Type 0 where
  here : {i : ℕ} → S i → Chain S R i i
  next : {i j k : ℕ} → S i → Touching R i j → Chain S R j k → Chain S R i k

-- A list ascends when each entry is below all that follow it.
pub data Ascending : List ℕ → Type 0 where
  nothing : Ascending []
  before : {x : ℕ} {xs : List ℕ} → ((y : ℕ) → In xs y → x < y) → Ascending xs → Ascending (x ∷ xs)

-- A closed set of document 01, a connected component: a set of indexes of the domain, written as its ascending list.
pub record Closed (D : ℕ → Type 0) (R : ℕ → ℕ → Type 0) (s : List ℕ) : Type 0 where
  -- the list ascends, so two lists of the same members are equal
  pub ascending : Ascending s
  pub within : (i : ℕ) → In s i → D i
  pub nonempty : 0 < length s
  -- any two members are joined by a chain of touching members
  pub joined : (i j : ℕ) → In s i → In s j → Chain (In s) R i j
  -- no outsider of the domain touches a member
  pub apart : (i j : ℕ) → In s i → D j → Touching R i j → In s j

-- A set stands in a listing once: at one number below the count, and at no other.
pub record Once (ss : List (List ℕ)) (s : List ℕ) : Type 0 where
  pub number : ℕ
  pub inside : number < length ss
  pub stands : get_or ss number [] ≡ s
  pub only : (k : ℕ) → k < length ss → get_or ss k [] ≡ s → k ≡ number

-- A listing of the closed sets, demand 3: each number below the count names a closed set, and each closed set is listed once.
pub record Listed (D : ℕ → Type 0) (R : ℕ → ℕ → Type 0) (ss : List (List ℕ)) : Type 0 where
  pub closed : (k : ℕ) → k < length ss → Closed D R (get_or ss k [])
  pub once : (s : List ℕ) → Closed D R s → Once ss s

-- A listing of the closed sets that pass a test: each number below the count names one, and each is listed once.
pub record ListedWhere (D : ℕ → Type 0) (R : ℕ → ℕ → Type 0) (test : List ℕ → Bool) (ss : List (List ℕ)) : Type 0 where
  pub closed : (k : ℕ) → k < length ss → Closed D R (get_or ss k [])
  pub passes : (k : ℕ) → k < length ss → test (get_or ss k []) ≡ true
  pub once : (s : List ℕ) → Closed D R s → test s ≡ true → Once ss s
