-- What `closed_sets` computes is the listing of the closed sets. A set that is grown n times stays: each time it stays or gets longer, and it never
-- gets longer than n.
use mathlib.Core.Path.{◌≡◌, refl, sym, ap, subst, ◌∙◌}
use mathlib.Core.Bool.{Bool, true, false, ◌||◌}
use mathlib.Core.Logic.{◌⊎◌, inl, inr, ⊎_elim}
use mathlib.Core.List.Memᴰ
use mathlib.Core.List.{List, [], ◌∷◌}
use Prim.Native.Nat.{ℕ, zero, suc, ◌≤◌, ◌<◌}
use native.Mathlib.Nat.{le_refl}
use native.Mathlib.Decide.{dec_le}
use native.Mathlib.Omega.{arith}
use lib.Dec.{eqb}
use lib.ListN.{length, get_or}
use borrow.Author.Tests.{eqb-true, eq-eqb}
use Rattle.lists.specs.Lists.{below, keep, any, concat, In}
use Rattle.lists.proofs.Keep.{length_below, in_below, below_in, kept_in, in_kept, any_true, true_any, map_same}
use Rattle.sets.specs.Closed.{Below, Touching, Chain, here, Ascending, nothing, before, Listed}
use Rattle.sets.specs.Steps.{Represents, class_of, classes}
use Rattle.sets.specs.Listing.{grow, grown, closed_set, closed_sets}
use Rattle.sets.proofs.Ascending.{ascending_below, ascending_keep, ascending_same, first_least, sublist}
use Rattle.sets.proofs.Chains.{chain_append, chain_back, chain_step, chain_carry, chain_last}
use Rattle.sets.proofs.Classes.{in_class, class_in_lem, classes_listed, classes_same}
use Rattle.sets.proofs.Represents.{represents_unique}
use Rattle.sets.proofs.Sizes.{classes_room}

or_cases : (a b : Bool) → a || b ≡ true → (a ≡ true) ⊎ (b ≡ true)
or_cases true b e = inl refl
or_cases false b e = inr e

or_left : (a b : Bool) → a ≡ true → a || b ≡ true
or_left a b e = ap (λ (t : Bool). t || b) e

or_right : (a b : Bool) → b ≡ true → a || b ≡ true
or_right true b e = refl
or_right false b e = e

-- The rule of a decision.
abbrev pub Holds : (ℕ → ℕ → Bool) → ℕ → ℕ → Type 0
Holds touch i j = touch i j ≡ true

module _ (n : ℕ) (touch : ℕ → ℕ → Bool) where
  near : ℕ → ℕ → Bool
  near i j = eqb i j || (touch i j || touch j i)

  near_cases : (i j : ℕ) → near i j ≡ true → (i ≡ j) ⊎ Touching (Holds touch) i j
  unfolding near
  near_cases i j e =
      ⊎_elim (λ (f : eqb i j ≡ true). inl (eqb-true i j f)) (λ (f : touch i j || touch j i ≡ true). inr (or_cases (touch i j) (touch j i) f))
      (or_cases (eqb i j) (touch i j || touch j i) e)

  near_touch : (i j : ℕ) → Touching (Holds touch) i j → near i j ≡ true
  unfolding near
  near_touch i j t =
      or_right (eqb i j) (touch i j || touch j i) (⊎_elim (or_left (touch i j) (touch j i)) (or_right (touch i j) (touch j i)) t)

  in_grow : (s : List ℕ) (i j : ℕ) → In s i → j < n → near i j ≡ true → In (grow n touch s) j
  unfolding near
  in_grow s i j m l e = in_kept (λ k. any (λ h. near h k) s) (below n) j (in_below n j l) (true_any (λ h. near h j) s i m e)

  grow_in : (s : List ℕ) (j : ℕ) → In (grow n touch s) j → (j < n) × ((i : ℕ) × In s i × (near i j ≡ true))
  unfolding near
  grow_in s j m =
      let w = kept_in (λ k. any (λ h. near h k) s) (below n) j m in (below_in n j w.0, any_true (λ h. near h j) s w.1)

  grow_ascends : (s : List ℕ) → Ascending (grow n touch s)
  unfolding near
  grow_ascends s = ascending_keep (λ k. any (λ h. near h k) s) (ascending_below n)

  -- a member stays a member
  grow_more : (s : List ℕ) (i : ℕ) → i < n → In s i → In (grow n touch s) i
  unfolding near
  grow_more s i l m = in_grow s i i m l (or_left (eqb i i) (touch i i || touch i i) (eq-eqb i i refl))

  module _ (i : ℕ) (l : i < n) where
    at : ℕ → List ℕ
    at k = grown n touch k (i ∷ [])

    grown_chain : (k j : ℕ) → In (at k) j → Chain (Below n) (Holds touch) i j
    unfolding at grown
    grown_chain zero j m = rw (Memᴰ.eq_of_singleton m) (here l)
    grown_chain (suc k) j m =
        let w = grow_in (at k) j m in
        let c = grown_chain k w.1.0 w.1.1 in
        ⊎_elim (λ (e : w.1.0 ≡ j). rw e at c) (λ t. chain_append c (chain_step (chain_last c) w.0 t)) (near_cases w.1.0 j w.1.2)

    grown_below : (k j : ℕ) → In (at k) j → j < n
    grown_below k j m = chain_last (grown_chain k j m)

    grown_ascends : (k : ℕ) → Ascending (at k)
    unfolding at grown
    grown_ascends zero = before {x = i} {xs = []} (λ y m. absurd (Memᴰ.not-nil m)) nothing
    grown_ascends (suc k) = grow_ascends (at k)

    self : (k : ℕ) → In (at k) i
    unfolding at grown
    self zero = Memᴰ.head refl
    self (suc k) = grow_more (at k) i l (self k)

    -- it stays, or is longer than the times it was grown
    stays_or_longer : (k : ℕ) → (grow n touch (at k) ≡ at k) ⊎ (k < length (at k))
    unfolding at grown
    stays_or_longer zero = inr (le_refl 1)
    stays_or_longer (suc k) = ⊎_elim (λ e. inl (ap (grow n touch) e)) longer (stays_or_longer k)
      where
        longer : k < length (at k) → (grow n touch (at (suc k)) ≡ at (suc k)) ⊎ (suc k < length (at (suc k)))
        longer h =
            let w = sublist (grown_ascends k) (grown_ascends (suc k)) (λ j m. grow_more (at k) j (grown_below k j m) m) in
            let le = w.0 in
            elim (dec_le (length (at (suc k))) (length (at k))) [
              | yes e ↦ inl (ap (grow n touch) (sym (w.1 e)))
              | no e ↦ inr (omega arith)
            ]

    stays : grow n touch (at n) ≡ at n
    stays =
        ⊎_elim (λ e. e)
        (λ h.
        let w = (sublist (grown_ascends n) (ascending_below n) (λ j m. in_below n j (grown_below n j m))).0 in
        absurd (omega (arith, length_below n)))
        (stays_or_longer n)

    -- the closed set of i is what a chain joins to i
    pub set_chain : (j : ℕ) → In (closed_set n touch i) j → Chain (Below n) (Holds touch) i j
    unfolding at closed_set
    set_chain j m = grown_chain n j m

    pub chain_set : (j : ℕ) → Chain (Below n) (Holds touch) i j → In (closed_set n touch i) j
    unfolding at closed_set
    chain_set j c =
        chain_carry (In (at n)) (λ a b m d t. subst (λ (s : List ℕ). In s b) stays (in_grow (at n) a b m d (near_touch a b t))) (self n) c

    set_ascends : Ascending (closed_set n touch i)
    unfolding at closed_set
    set_ascends = grown_ascends n

  -- indexes that a chain joins have one closed set
  chain_same : {i j : ℕ} → Chain (Below n) (Holds touch) i j → closed_set n touch i ≡ closed_set n touch j
  chain_same {i} {j} c =
      let li = chain_last (chain_back c) in
      let lj = chain_last c in
      ascending_same (set_ascends i li) (set_ascends j lj) (λ k m. chain_set j lj k (chain_append (chain_back c) (set_chain i li k m)))
      (λ k m. chain_set i li k (chain_append c (set_chain j lj k m)))

  least : ℕ → ℕ
  least i = get_or (closed_set n touch i) 0 0

  least_first : (i : ℕ) → i < n → Chain (Below n) (Holds touch) i (least i) × (least i ≤ i)
  unfolding least
  least_first i l =
      let w = first_least (set_ascends i l) i (chain_set i l i (here l)) in (set_chain i l (get_or (closed_set n touch i) 0 0) w.0, w.1)

  least_represents : Represents (Below n) (Holds touch) least
  unfolding least
  least_represents =
      record {
        stays = λ i l. chain_last (least_first i l).0;
        low = λ i l. (least_first i l).1;
        fixed = λ i l. ap first (sym (chain_same (least_first i l).0));
        sound = λ i j li lj e. chain_append (least_first i li).0 (rw e (chain_back (least_first j lj).0));
        complete = λ i j li lj r. ap first (chain_same (chain_step li lj (inl r)));
      }
    where
      first : List ℕ → ℕ
      first s = get_or s 0 0

  sets_classes : closed_sets n touch ≡ classes n least
  unfolding closed_sets least
  sets_classes = map_same (closed_set n touch) (class_of n least) (keep (λ r. eqb (least r) r) (below n)) (λ r m. same r (kept_in (λ k. eqb (least k) k) (below n) r m))
    where
      same : (r : ℕ) → In (below n) r × (eqb (least r) r ≡ true) → closed_set n touch r ≡ class_of n least r
      same r w =
          let l = below_in n r w.0 in
          let e = eqb-true (least r) r w.1 in
          ascending_same (set_ascends r l) (ascending_keep (λ k. eqb (least k) r) (ascending_below n))
          (λ j m. let c = set_chain r l j m in in_class n least r j (chain_last c) (sym (represents_along c) ∙ e))
          (λ j m. let v = class_in_lem n least r j m in chain_set r l j (least_represents.sound r j l v.0 (e ∙ sym v.1)))
        where
          represents_along : {a b : ℕ} → Chain (Below n) (Holds touch) a b → least a ≡ least b
          represents_along c = ap (λ (s : List ℕ). get_or s 0 0) (chain_same c)

  -- all closed sets together have no more members than there are indexes
  pub sets_total : length (concat (closed_sets n touch)) ≤ n
  sets_total = rw sets_classes (classes_room n least least_represents.fixed)

  -- what `closed_sets` computes is the listing of the closed sets
  pub closed_sets_listed : Listed (Below n) (Holds touch) (closed_sets n touch)
  closed_sets_listed = rw sets_classes (classes_listed least_represents)

  -- the classes of any function that represents the rule are what `closed_sets` computes
  pub classes_closed_sets : {f : ℕ → ℕ} → Represents (Below n) (Holds touch) f → classes n f ≡ closed_sets n touch
  classes_closed_sets {f} F = classes_same n f least (represents_unique F least_represents) ∙ sym sets_classes
