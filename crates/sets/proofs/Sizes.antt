-- The sets that are listed so far have together as many members as indexes with a smaller root: never more than n.
use mathlib.Core.Path.{◌≡◌, refl, sym, ap, ◌∙◌}
use mathlib.Core.Bool.{Bool}
use mathlib.Core.List.{List, [], ◌∷◌, ◌++◌, map, append-nil}
use Prim.Native.Nat.{ℕ, zero, suc, ◌+◌, ◌≤◌, ◌<◌}
use native.Mathlib.Decide.{dec_lt, ℕ_discrete}
use native.Mathlib.Omega.{arith}
use lib.Dec.{eqb, ltb}
use lib.ListN.{length, get_or, length-append, length-map}
use borrow.Author.Tests.{eq-eqb, ne_eqb, lt-ltb, le-ltb}
use Rattle.lists.specs.Lists.{one, below, keep, concat}
use Rattle.lists.proofs.Keep.{length_below, map_append, concat_append}
use Rattle.lists.proofs.Sizes.{keep_size_le, keep_size_split, keep_one, keep_past, keep_none, keep_all}
use Rattle.sets.specs.Listing.{closed_set, closed_sets, ends_from}
use Rattle.sets.specs.Steps.{class_of, classes}

-- there are no more closed sets than indexes
pub sets_few : (n : ℕ) (touch : ℕ → ℕ → Bool) → length (closed_sets n touch) ≤ n
unfolding closed_sets
sets_few n touch =
    let first : ℕ → Bool = λ i. eqb (get_or (closed_set n touch i) 0 0) i in
    omega (arith, length-map (keep first (below n)) (closed_set n touch), keep_size_le first (below n), length_below n)

-- The classes with a root below m.
unfoldable pub classes_to : ℕ → (ℕ → ℕ) → ℕ → List (List ℕ)
classes_to n f m = map (class_of n f) (keep (λ r. eqb (f r) r) (below m))

pub classes_all : (n : ℕ) (f : ℕ → ℕ) → classes_to n f n ≡ classes n f
unfolding classes_to
classes_all n f = refl

pub classes_none : (n : ℕ) (f : ℕ → ℕ) → classes_to n f 0 ≡ []
unfolding classes_to
classes_none n f = refl

pub classes_one : (n : ℕ) (f : ℕ → ℕ) (m : ℕ) → f m ≡ m → classes_to n f (suc m) ≡ classes_to n f m ++ (class_of n f m ∷ [])
unfolding classes_to
classes_one n f m e =
    ap (map (class_of n f)) (keep_one (λ r. eqb (f r) r) m (eq-eqb (f m) m e)) ∙ map_append (class_of n f) (keep (λ r. eqb (f r) r) (below m)) (m ∷ [])

pub classes_past : (n : ℕ) (f : ℕ → ℕ) (m : ℕ) → (f m ≡ m → ⊥) → classes_to n f (suc m) ≡ classes_to n f m
unfolding classes_to
classes_past n f m e = ap (map (class_of n f)) (keep_past (λ r. eqb (f r) r) m (ne_eqb (f m) m e))

pub classes_count : (n : ℕ) (f : ℕ → ℕ) (m : ℕ) → length (classes_to n f m) ≤ m
unfolding classes_to
classes_count n f m =
    let a = keep_size_le (λ r. eqb (f r) r) (below m) in
    omega (arith, length-map (keep (λ r. eqb (f r) r) (below m)) (class_of n f), length_below m)

-- a root below m + 1 is below m, or m
split_root : (m u : ℕ) → one (ltb u (suc m)) ≡ one (ltb u m) + one (eqb u m)
split_root m u = go (dec_lt u m) (ℕ_discrete u m)
  where
    go : Dec (u < m) → Dec (u ≡ m) → one (ltb u (suc m)) ≡ one (ltb u m) + one (eqb u m)
    go (yes l) (yes e) = absurd (omega arith)
    go (yes l) (no e) = rw (lt-ltb u (suc m) (omega arith), lt-ltb u m l, ne_eqb u m e)
    go (no l) (yes e) = rw (lt-ltb u (suc m) (omega arith), le-ltb u m (omega arith), eq-eqb u m e)
    go (no l) (no e) = rw (le-ltb u (suc m) (omega arith), le-ltb u m (omega arith), ne_eqb u m e)

pub concat_one : (ss : List (List ℕ)) (s : List ℕ) → concat (ss ++ (s ∷ [])) ≡ concat ss ++ s
concat_one ss s = concat_append ss (s ∷ []) ∙ ap (λ (w : List ℕ). concat ss ++ w) (append-nil s)

module _ (n : ℕ) (f : ℕ → ℕ) (fixed : (i : ℕ) → i < n → f (f i) ≡ f i) where
  sizes : (m : ℕ) → length (concat (classes_to n f m)) ≡ length (keep (λ j. ltb (f j) m) (below n))
  sizes zero = ap (λ (w : List (List ℕ)). length (concat w)) (classes_none n f) ∙ sym (ap length (keep_none (λ j. ltb (f j) zero) n (λ m h. le-ltb (f m) zero (omega arith))))
  sizes (suc m) = go (sizes m) (ℕ_discrete (f m) m)
    where
      parts : length (keep (λ j. ltb (f j) (suc m)) (below n)) ≡ length (keep (λ j. ltb (f j) m) (below n)) + length (class_of n f m)
      parts = keep_size_split (λ j. ltb (f j) (suc m)) (λ j. ltb (f j) m) (λ j. eqb (f j) m) (λ j. split_root m (f j)) (below n)

      go : length (concat (classes_to n f m)) ≡ length (keep (λ j. ltb (f j) m) (below n)) → Dec (f m ≡ m)
          → length (concat (classes_to n f (suc m))) ≡ length (keep (λ j. ltb (f j) (suc m)) (below n))
      go e (yes h) =
          ap (λ (w : List (List ℕ)). length (concat w)) (classes_one n f m h) ∙ ap length (concat_one (classes_to n f m) (class_of n f m))
          ∙ length-append (concat (classes_to n f m)) (class_of n f m) ∙ ap (λ (k : ℕ). k + length (class_of n f m)) e ∙ sym parts
      go e (no h) =
          let empty : length (class_of n f m) ≡ 0 = ap length (keep_none (λ j. eqb (f j) m) n (λ j l. ne_eqb (f j) m (λ g. h (sym (ap f g) ∙ fixed j l ∙ g)))) in
          ap (λ (w : List (List ℕ)). length (concat w)) (classes_past n f m h) ∙ e ∙ omega (arith, parts)

  -- every index below n is in one of the sets
  pub classes_total : ((i : ℕ) → i < n → f i < n) → length (concat (classes n f)) ≡ n
  classes_total low =
      ap (λ (w : List (List ℕ)). length (concat w)) (sym (classes_all n f)) ∙ sizes n
      ∙ ap length (keep_all (λ j. ltb (f j) n) n (λ j l. lt-ltb (f j) n (low j l))) ∙ length_below n

  -- there is room for one set more
  pub classes_fit : (m : ℕ) → f m ≡ m → length (concat (classes_to n f m)) + length (class_of n f m) ≤ n
  classes_fit m e =
      let more : length (concat (classes_to n f (suc m))) ≡ length (concat (classes_to n f m)) + length (class_of n f m) =
      ap (λ (w : List (List ℕ)). length (concat w)) (classes_one n f m e) ∙ ap length (concat_one (classes_to n f m) (class_of n f m))
      ∙ length-append (concat (classes_to n f m)) (class_of n f m) in
      omega (arith, sizes (suc m), keep_size_le (λ j. ltb (f j) (suc m)) (below n), length_below n)

  -- all sets together have no more members than there are indexes
  pub classes_room : length (concat (classes n f)) ≤ n
  classes_room =
      omega (arith, ap (λ (w : List (List ℕ)). length (concat w)) (classes_all n f), sizes n, keep_size_le (λ j. ltb (f j) n) (below n), length_below n)

pub length_ends : (k : ℕ) (ss : List (List ℕ)) → length (ends_from k ss) ≡ length ss
length_ends k [] = refl
length_ends k (s ∷ ss) = ap suc (length_ends (k + length s) ss)

pub ends_one : (k : ℕ) (ss : List (List ℕ)) (s : List ℕ) → ends_from k (ss ++ (s ∷ [])) ≡ ends_from k ss ++ ((k + (length (concat ss) + length s)) ∷ [])
ends_one k [] s = ap (λ (e : ℕ). e ∷ []) (omega arith)
ends_one k (t ∷ ss) s =
    ap (λ (w : List ℕ). (k + length t) ∷ w)
    (ends_one (k + length t) ss s ∙ ap (λ (e : ℕ). ends_from (k + length t) ss ++ (e ∷ [])) (omega (arith, length-append t (concat ss))))

-- sets that are each exchanged for one of the same length have the same ends and as many members
module _ (f : List ℕ → List ℕ) (same : (s : List ℕ) → length (f s) ≡ length s) where
  pub ends_exchanged : (k : ℕ) (ss : List (List ℕ)) → ends_from k (map f ss) ≡ ends_from k ss
  ends_exchanged k [] = refl
  ends_exchanged k (s ∷ ss) = rw (same s) (ap (λ (t : List ℕ). (k + length s) ∷ t) (ends_exchanged (k + length s) ss))

  pub total_exchanged : (ss : List (List ℕ)) → length (concat (map f ss)) ≡ length (concat ss)
  total_exchanged [] = refl
  total_exchanged (s ∷ ss) = omega (arith, length-append (f s) (concat (map f ss)), length-append s (concat ss), same s, total_exchanged ss)
