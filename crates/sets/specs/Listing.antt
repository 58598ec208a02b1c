-- Listings: the closed sets in a definition that computes, and how a listing stands in lent lists.
use Rattle.std.specs.Prelude.{◌≡◌, Bool, cond, ◌&&◌, ◌||◌, List, [], ◌∷◌, map, ℕ, zero, suc, ◌+◌, ◌-◌, ◌≤◌, ◌<◌, eqb, leb, ltb, length, get_or, take, drop}
use Rattle.lists.specs.Lists.{below, keep, any}

-- A set with all indexes below n that touch a member of it, either way round.
abbrev pub grow : ℕ → (ℕ → ℕ → Bool) → List ℕ → List ℕ
grow n touch s = keep (λ j. any (λ i. eqb i j || (touch i j || touch j i)) s) (below n)

-- A set grown k times.
unfoldable pub grown : ℕ → (ℕ → ℕ → Bool) → ℕ → List ℕ → List ℕ
grown n touch zero s = s
grown n touch (suc k) s = grow n touch (grown n touch k s)

-- The closed set of i: what i grows to until it stays, for which n times are enough.
unfoldable pub closed_set : ℕ → (ℕ → ℕ → Bool) → ℕ → List ℕ
unfolding grown
closed_set n touch i = grown n touch n (i ∷ [])

-- The closed sets of the indexes below n, by smallest index: that of each index which is the first of its own.
unfoldable pub closed_sets : ℕ → (ℕ → ℕ → Bool) → List (List ℕ)
unfolding closed_set
closed_sets n touch = map (closed_set n touch) (keep (λ i. eqb (get_or (closed_set n touch i) 0 0) i) (below n))

-- Touching inside a domain that a test decides: an index outside it touches none.
abbrev pub touch_in : (ℕ → Bool) → (ℕ → ℕ → Bool) → ℕ → ℕ → Bool
touch_in q touch i j = q i && q j && touch i j

-- The closed sets over the indexes below n that pass a test, by smallest index (`closed_sets_in_listed` is the law).
unfoldable pub closed_sets_in : ℕ → (ℕ → Bool) → (ℕ → ℕ → Bool) → List (List ℕ)
closed_sets_in n q touch =
    let ss = closed_sets n (touch_in q touch) in map (λ k. get_or ss k []) (keep (λ k. q (get_or (get_or ss k []) 0 0)) (below (length ss)))

-- The end of each set, where the sets are strung together from place k on.
abbrev pub ends_from : ℕ → List (List ℕ) → List ℕ
ends_from k [] = []
ends_from k (s ∷ ss) = (k + length s) ∷ ends_from (k + length s) ss

-- Set k begins where the one before it ends.
abbrev pub start_of : List ℕ → ℕ → ℕ
start_of ends zero = 0
start_of ends (suc k) = get_or ends k 0

-- The members of set k of a listing, as a part of its member list; the empty part for a number at or past the count, and for bad bounds.
abbrev pub members_of : List ℕ → List ℕ → ℕ → ℕ → List ℕ
members_of members ends count k =
    cond (ltb k count && ltb k (length ends) && leb (start_of ends k) (get_or ends k 0) && leb (get_or ends k 0) (length members))
    (take (get_or ends k 0 - start_of ends k) (drop (start_of ends k) members)) []

-- The sets as they are read from the lent lists: each number below the count gives its set, and any other number the empty part.
pub record ReadAs (ss : List (List ℕ)) (members ends : List ℕ) (count : ℕ) : Type 0 where
  pub each : (k : ℕ) → k < count → members_of members ends count k ≡ get_or ss k []
  pub none : (k : ℕ) → count ≤ k → members_of members ends count k ≡ []
