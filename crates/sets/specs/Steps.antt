-- What the functions of `sets` and `listings` ask and leave; none of it is needed to read the contracts.
use Rattle.std.specs.Prelude.{◌≡◌, Bool, cond, ◌&&◌, ◌⊎◌, List, [], ◌∷◌, map, ℕ, ◌≤◌, ◌<◌, zero, suc, ◌^◌, min, max, ◌+◌, length, get_or, drop, eqb}
use Rattle.lists.specs.Lists.{below, keep, concat, written}
use Rattle.sets.specs.Closed.{Touching, Chain}
use Rattle.sets.specs.Listing.{ends_from}
use Rattle.std.proofs.lemmas.List.Edits.{sets}

-- s is the smallest index of the closed set of i: of all that a chain joins to i.
pub record LeastOf (D : ℕ → Type 0) (R : ℕ → ℕ → Type 0) (i s : ℕ) : Type 0 where
  pub member : Chain D R i s
  pub least : (j : ℕ) → Chain D R i j → s ≤ j

-- A list has room for the indexes below n, and they and their count fit its 32 bits.
pub record Room (n : ℕ) (p : List ℕ) : Type 0 where
  pub room : n ≤ length p
  pub small : n < 2 ^ 32

-- The first n entries of a list are parents: each is at most its index.
pub record Parents (n : ℕ) (p : List ℕ) : Type 0 where
  pub room : n ≤ length p
  pub small : n < 2 ^ 32
  pub down : (i : ℕ) → i < n → get_or p i 0 ≤ i

-- The parent followed k times from i.
unfoldable pub climb : List ℕ → ℕ → ℕ → ℕ
climb p zero i = i
climb p (suc k) i = climb p k (get_or p i 0)

-- The root of i: its parent followed to the end, for which i steps are enough.
unfoldable pub root : List ℕ → ℕ → ℕ
unfolding climb
root p i = climb p i i

-- Two lists of parents have the same roots, and the places past them are kept.
pub record SameRoots (n : ℕ) (p q : List ℕ) : Type 0 where
  pub parents : Parents n q
  pub roots : (k : ℕ) → k < n → root q k ≡ root p k
  pub kept : drop n q ≡ drop n p

-- The root of i was found; paths may be shorter, but every root is as it was.
pub record Found (n : ℕ) (p : List ℕ) (i : ℕ) (q : List ℕ) (r : ℕ) : Type 0 where
  pub found : r ≡ root p i
  pub same : SameRoots n p q

-- The root k, once the sets with the roots a and b are one: the smaller root wins.
abbrev pub merged : ℕ → ℕ → ℕ → ℕ
merged a b k = cond (eqb k (max a b)) (min a b) k

-- The sets of i and j are one if they touch, and every other root is as it was.
pub record Joined (n : ℕ) (p : List ℕ) (i j : ℕ) (touch : Bool) (q : List ℕ) : Type 0 where
  pub parents : Parents n q
  pub roots : (k : ℕ) → k < n → root q k ≡ cond touch (merged (root p i) (root p j) (root p k)) (root p k)
  pub kept : drop n q ≡ drop n p

-- The indexes below n of which f is r, ascending.
abbrev pub class_of : ℕ → (ℕ → ℕ) → ℕ → List ℕ
class_of n f r = keep (λ i. eqb (f i) r) (below n)

-- The indexes below n in sets of equal f, by smallest index, where f gives each the smallest of its set.
abbrev pub classes : ℕ → (ℕ → ℕ) → List (List ℕ)
classes n f = map (class_of n f) (keep (λ r. eqb (f r) r) (below n))

-- The same over the indexes below n that pass a test.
abbrev pub class_in : ℕ → (ℕ → Bool) → (ℕ → ℕ) → ℕ → List ℕ
class_in n q f r = keep (λ i. q i && eqb (f i) r) (below n)

abbrev pub classes_in : ℕ → (ℕ → Bool) → (ℕ → ℕ) → List (List ℕ)
classes_in n q f = map (class_in n q f) (keep (λ r. q r && eqb (f r) r) (below n))

-- What `list` leaves: the sets of equal root strung together, their ends and their count; places past the answers are kept. The parents are flat.
pub record Listing (n : ℕ) (p m e p' m' e' : List ℕ) (r : ℕ) : Type 0 where
  pub count : r ≡ length (classes n (root p))
  pub members : m' ≡ written (concat (classes n (root p))) m
  pub ends : e' ≡ written (ends_from 0 (classes n (root p))) e
  pub labels : p' ≡ written (map (root p) (below n)) p

-- f gives each index of the domain the smallest index of its closed set.
pub record Represents (D : ℕ → Type 0) (R : ℕ → ℕ → Type 0) (f : ℕ → ℕ) : Type 0 where
  pub stays : (i : ℕ) → D i → D (f i)
  pub low : (i : ℕ) → D i → f i ≤ i
  pub fixed : (i : ℕ) → D i → f (f i) ≡ f i
  -- indexes with the same representative are joined by a chain, and touching ones have the same
  pub sound : (i j : ℕ) → D i → D j → f i ≡ f j → Chain D R i j
  pub complete : (i j : ℕ) → D i → D j → R i j → f i ≡ f j

-- The roots of p are the closed sets of R over the domain D, of indexes below n.
pub record Joins (n : ℕ) (D : ℕ → Type 0) (R : ℕ → ℕ → Type 0) (p : List ℕ) : Type 0 where
  pub parents : Parents n p
  pub inside : (i : ℕ) → D i → i < n
  pub roots : Represents D R (root p)

-- The pairs a < b that touch and stand before the pair i, j.
pub record Seen (R : ℕ → ℕ → Type 0) (i j a b : ℕ) : Type 0 where
  pub touch : Touching R a b
  pub order : a < b
  pub before : (a < i) ⊎ ((a ≡ i) × (b < j))

-- Some pairs are joined: those of S are, and two that are joined hang together by R. Once S reaches as far as R does, the rule R is joined.
pub record Between (n : ℕ) (D : ℕ → Type 0) (S R : ℕ → ℕ → Type 0) (p : List ℕ) : Type 0 where
  pub parents : Parents n p
  pub inside : (i : ℕ) → D i → i < n
  pub stays : (i : ℕ) → D i → D (root p i)
  pub sound : (i j : ℕ) → D i → D j → root p i ≡ root p j → Chain D R i j
  pub done : (i j : ℕ) → D i → D j → S i j → root p i ≡ root p j

-- The pairs of S, and those of T of which the first stands before the second in an order, and both before the places k, l.
pub data Swept (S T : ℕ → ℕ → Type 0) (order : List ℕ) (k l : ℕ) : ℕ → ℕ → Type 0 where
  known : {i j : ℕ} → S i j → Swept S T order k l i j
  tried : {i j a b : ℕ} → Touching T i j → get_or order a 0 ≡ i → get_or order b 0 ≡ j → a < b → (a < k) ⊎ ((a ≡ k) × (b < l)) → Swept S T order k l i j

-- What stands in a list at a place.
abbrev pub entry : List ℕ → ℕ → ℕ
entry p i = get_or p i 0

-- Flat parents: each of the first n entries is a root at most its index.
pub record Flat (n : ℕ) (p : List ℕ) : Type 0 where
  pub room : n ≤ length p
  pub small : n < 2 ^ 32
  pub low : (i : ℕ) → i < n → entry p i ≤ i
  pub fixed : (i : ℕ) → i < n → entry p (entry p i) ≡ entry p i

-- The first index at or past i, below n, with the root r; or 0 if there is none.
pub data First (n : ℕ) (p : List ℕ) (r i : ℕ) : ℕ → Type 0 where
  found : {k : ℕ} → i ≤ k → k < n → entry p k ≡ r → ((m : ℕ) → i ≤ m → m < k → entry p m ≡ r → ⊥) → First n p r i k
  none : ((m : ℕ) → i ≤ m → m < n → entry p m ≡ r → ⊥) → First n p r i 0

-- The first n entries are 0.
pub record Unthreaded (n : ℕ) (next : List ℕ) : Type 0 where
  pub room : n ≤ length next
  pub clear : (i : ℕ) → i < n → entry next i ≡ 0

-- Each index below n points at the next larger one with its root.
pub record Threaded (n : ℕ) (p next : List ℕ) : Type 0 where
  pub room : n ≤ length next
  pub after : (j : ℕ) → j < n → First n p (entry p j) (suc j) (entry next j)

-- Each of the first n entries is 0, or larger than its index.
pub record Rising (n : ℕ) (next : List ℕ) : Type 0 where
  pub room : n ≤ length next
  pub small : n < 2 ^ 32
  pub rises : (j : ℕ) → j < n → (entry next j ≡ 0) ⊎ ((j < entry next j) × (entry next j < n))

-- The indexes that are met from i on.
pub data Trail (next : List ℕ) : ℕ → List ℕ → Type 0 where
  last : {i : ℕ} → entry next i ≡ 0 → Trail next i (i ∷ [])
  more : {i : ℕ} {t : List ℕ} → (entry next i ≡ 0 → ⊥) → Trail next (entry next i) t → Trail next i (i ∷ t)

-- There is room for the trail from i, from place `at` on.
pub record Fitting (next : List ℕ) (i : ℕ) (members : List ℕ) (at : ℕ) : Type 0 where
  pub met : List ℕ
  pub trail : Trail next i met
  pub fits : at + length met ≤ length members

-- t was written from place `at` on, and r is its end.
pub record Appended (members : List ℕ) (at : ℕ) (t members' : List ℕ) (r : ℕ) : Type 0 where
  pub content : members' ≡ sets members at t
  pub end : r ≡ at + length t

-- The sets of equal entry were listed.
pub record Gathered (n : ℕ) (p m e m' e' : List ℕ) (r : ℕ) : Type 0 where
  pub count : r ≡ length (classes n (entry p))
  pub members : m' ≡ written (concat (classes n (entry p))) m
  pub ends : e' ≡ written (ends_from 0 (classes n (entry p))) e
