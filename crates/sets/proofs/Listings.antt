-- What a caller has once its rule is joined and listed: the listing is that of the closed sets, and each number gives its set back.
use mathlib.Core.Path.{◌≡◌, refl, sym, ap, ap₂, ◌∙◌}
use mathlib.Core.Bool.{Bool, true}
use mathlib.Core.List.{List, [], ◌∷◌, ◌++◌, append_assoc}
use Prim.Native.Nat.{ℕ, zero, suc, ◌+◌, ◌-◌, ◌≤◌, ◌<◌}
use native.Mathlib.Nat.{not-suc-le-zero, le_of_suc-le-suc, lt_of_le_of_lt}
use native.Mathlib.Decide.{dec_lt}
use native.Mathlib.Omega.{arith}
use lib.ListN.{length, get_or, take, drop, length-append, get_or-eq_default}
use lib.Seq.{take-append_seam, drop-append-add}
use borrow.Author.Tests.{lt-ltb, le-ltb, le-leb}
use Rattle.lists.specs.Lists.{concat, written}
use Rattle.lists.proofs.Written.{written_length, written_at}
use Rattle.sets.specs.Closed.{Below, Listed}
use Rattle.sets.specs.Listing.{closed_sets, ends_from, start_of, members_of, ReadAs}
use Rattle.sets.specs.Steps.{classes, classes_in, Listing, Joins, Parents, root}
use Rattle.sets.proofs.Classes.{classes_listed, classes_listed_in}
use Rattle.sets.proofs.Grown.{Holds, classes_closed_sets}
use Rattle.sets.proofs.Sizes.{classes_all, classes_count, classes_total, length_ends}
use Rattle.sets.proofs.Roots.{root_le, root_root}

-- where every test passes, the part stands between the bounds
pub members_inside : (members ends : List ℕ) (count k : ℕ) → k < count → k < length ends → start_of ends k ≤ get_or ends k 0
    → get_or ends k 0 ≤ length members → members_of members ends count k ≡ take (get_or ends k 0 - start_of ends k) (drop (start_of ends k) members)
members_inside members ends count k a b g h =
    simp (lt-ltb k count a, lt-ltb k (length ends) b, le-leb (start_of ends k) (get_or ends k 0) g, le-leb (get_or ends k 0) (length members) h)

-- a set is listed exactly when it is closed, and then once
pub joins_listed : {n : ℕ} {R : ℕ → ℕ → Type 0} {p : List ℕ} → Joins n (Below n) R p → Listed (Below n) R (classes n (root p))
joins_listed J = classes_listed J.roots

-- the same over a domain that a test decides: what is outside it stands in no set
pub joins_listed_in : {n : ℕ} {D : ℕ → Type 0} {R : ℕ → ℕ → Type 0} {p : List ℕ} (q : ℕ → Bool) → ((i : ℕ) → D i → q i ≡ true)
    → ((i : ℕ) → i < n → q i ≡ true → D i) → Joins n D R p → Listed D R (classes_in n q (root p))
joins_listed_in q test domain J = classes_listed_in q (λ i d. (J.inside i d, test i d)) domain J.roots

-- the listing is the one that `closed_sets` computes
pub joins_closed_sets : {n : ℕ} {p : List ℕ} (touch : ℕ → ℕ → Bool) → Joins n (Below n) (Holds touch) p → classes n (root p) ≡ closed_sets n touch
joins_closed_sets {n} touch J = classes_closed_sets n touch J.roots

-- How many members the sets before set k have.
before : List (List ℕ) → ℕ → ℕ
before [] k = 0
before (s ∷ ss) zero = 0
before (s ∷ ss) (suc k) = length s + before ss k

ends_at : (a : ℕ) (ss : List (List ℕ)) (k : ℕ) → k < length ss → get_or (ends_from a ss) k 0 ≡ a + (before ss k + length (get_or ss k []))
unfolding before
ends_at a [] k h = absurd (not-suc-le-zero h)
ends_at a (s ∷ ss) zero h = omega arith
ends_at a (s ∷ ss) (suc k) h = ends_at (a + length s) ss k (le_of_suc-le-suc h) ∙ omega arith

before_next : (ss : List (List ℕ)) (k : ℕ) → k < length ss → before ss (suc k) ≡ before ss k + length (get_or ss k [])
unfolding before
before_next [] k h = absurd (not-suc-le-zero h)
before_next (s ∷ []) zero h = omega arith
before_next (s ∷ (t ∷ ss)) zero h = omega arith
before_next (s ∷ ss) (suc k) h = ap (λ (x : ℕ). length s + x) (before_next ss k (le_of_suc-le-suc h)) ∙ omega arith

before_zero : (ss : List (List ℕ)) → before ss 0 ≡ 0
unfolding before
before_zero [] = refl
before_zero (s ∷ ss) = refl

before_le : (ss : List (List ℕ)) (k : ℕ) → k < length ss → before ss k + length (get_or ss k []) ≤ length (concat ss)
unfolding before
before_le [] k h = absurd (not-suc-le-zero h)
before_le (s ∷ ss) zero h = omega (arith, length-append s (concat ss))
before_le (s ∷ ss) (suc k) h = omega (arith, length-append s (concat ss), before_le ss k (le_of_suc-le-suc h))

part_at : (ss : List (List ℕ)) (t : List ℕ) (k : ℕ) → k < length ss → take (length (get_or ss k [])) (drop (before ss k) (concat ss ++ t)) ≡ get_or ss k []
unfolding before
part_at [] t k h = absurd (not-suc-le-zero h)
part_at (s ∷ ss) t zero h = rw (append_assoc s (concat ss) t) (take-append_seam s (concat ss ++ t))
part_at (s ∷ ss) t (suc k) h =
    rw (append_assoc s (concat ss) t, drop-append-add s (concat ss ++ t) (before ss k)) (part_at ss t k (le_of_suc-le-suc h))

module _ (ss : List (List ℕ)) (m e : List ℕ) (room : length (concat ss) ≤ length m) (count : length ss ≤ length e) where
  end_at : (k : ℕ) → k < length ss → get_or (written (ends_from 0 ss) e) k 0 ≡ before ss k + length (get_or ss k [])
  end_at k h = written_at (ends_from 0 ss) e k 0 (rw (length_ends 0 ss) h) ∙ ends_at 0 ss k h ∙ omega arith

  start_at : (k : ℕ) → k < length ss → start_of (written (ends_from 0 ss) e) k ≡ before ss k
  start_at zero h = sym (before_zero ss)
  start_at (suc k) h = end_at k (omega arith) ∙ sym (before_next ss k (omega arith))

  -- each number gives its set back, and any other the empty part
  pub members_listed : (k : ℕ) → members_of (written (concat ss) m) (written (ends_from 0 ss) e) (length ss) k ≡ get_or ss k []
  members_listed k = go (dec_lt k (length ss))
    where
      go : Dec (k < length ss) → members_of (written (concat ss) m) (written (ends_from 0 ss) e) (length ss) k ≡ get_or ss k []
      go (yes h) =
          let ends = written (ends_from 0 ss) e in
          let start = start_at k h in
          let end = end_at k h in
          let long : length ends ≡ length e = written_length (ends_from 0 ss) e (rw (length_ends 0 ss) count) in
          let wide : length (written (concat ss) m) ≡ length m = written_length (concat ss) m room in
          let size : get_or ends k 0 - start_of ends k ≡ length (get_or ss k []) = omega arith in
          members_inside (written (concat ss) m) ends (length ss) k h (omega arith) (omega arith) (omega (arith, before_le ss k h))
          ∙ ap₂ (λ (x y : ℕ). take x (drop y (written (concat ss) m))) size start
          ∙ part_at ss (drop (length (concat ss)) m) k h
      go (no h) = simp (le-ltb k (length ss) (omega arith)) (sym (get_or-eq_default ss [] (omega arith)))

  pub read_as : ReadAs ss (written (concat ss) m) (written (ends_from 0 ss) e) (length ss)
  read_as =
      record { each = λ k h. members_listed k; none = λ k h. members_listed k ∙ get_or-eq_default ss [] h }

-- a listing that `list` made has n members in all, and each of its numbers gives its set back
module _ {n : ℕ} {p : List ℕ} (P : Parents n p) where
  pub listing_total : length (concat (classes n (root p))) ≡ n
  listing_total = classes_total n (root p) (root_root P) (λ i l. lt_of_le_of_lt (root_le P i l) l)

  pub listing_count : length (classes n (root p)) ≤ n
  listing_count = rw (sym (classes_all n (root p))) (classes_count n (root p) n)

  pub listing_set : {m e p' m' e' : List ℕ} {r : ℕ} → n ≤ length m → n ≤ length e → Listing n p m e p' m' e' r → (k : ℕ)
      → members_of m' e' r k ≡ get_or (classes n (root p)) k []
  listing_set {m} {e} hm he L k =
      rw (L.members, L.ends, L.count)
      (members_listed (classes n (root p)) m e (omega (arith, listing_total)) (omega (arith, listing_count)) k)
