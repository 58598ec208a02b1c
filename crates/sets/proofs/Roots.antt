-- Roots. A parent is at most its index, so following it ends. One law makes the rest short: any f that a parent keeps, and that is the identity
-- on roots, is `root`.
use mathlib.Core.Path.{◌≡◌, refl, sym, ap, ◌∙◌}
use mathlib.Core.Bool.{Bool, true, false, cond}
use mathlib.Core.Logic.{◌⊎◌, inl, inr, ⊎_elim}
use mathlib.Core.List.{List}
use Prim.Native.Nat.{ℕ, zero, suc, ◌≤◌, ◌<◌, min, max}
use native.Mathlib.Nat.{eq-or-lt_of_le, le_refl, max_comm, min_comm}
use native.Mathlib.Decide.{le_ind, ℕ_discrete}
use native.Mathlib.Omega.{arith}
use lib.Dec.{eqb}
use lib.ListN.{get_or, set, length-set}
use lib.Seq.{get_or-set_same, get_or-set_other, drop-set-lt}
use borrow.Author.Tests.{eq-eqb, ne_eqb, eqb-true, eqb-false}
use Rattle.sets.specs.Steps.{Parents, climb, root, SameRoots, merged, Joined}

climb_same : (p : List ℕ) (k i : ℕ) → get_or p i 0 ≡ i → climb p k i ≡ i
unfolding climb
climb_same p zero i e = refl
climb_same p (suc k) i e = ap (climb p k) e ∙ climb_same p k i e

module _ {n : ℕ} {p : List ℕ} (P : Parents n p) where
  -- a parent stays, or is smaller
  cases : (i : ℕ) → i < n → (get_or p i 0 ≡ i) ⊎ (get_or p i 0 < i)
  cases i h = eq-or-lt_of_le (P.down i h)

  -- a parent that is at most k + 1 stays, or its parent is at most k
  step : (k i : ℕ) → i ≤ suc k → i < n → (get_or p i 0 ≡ i) ⊎ ((get_or p i 0 ≤ k) × (get_or p i 0 < n))
  step k i h l = ⊎_elim (λ (e : get_or p i 0 ≡ i). inl e) (λ (m : get_or p i 0 < i). inr (omega arith)) (cases i l)

  zero_stays : (i : ℕ) → i ≤ 0 → i < n → get_or p i 0 ≡ i
  zero_stays i h l = let d : get_or p i 0 ≤ i = P.down i l in omega arith

  climb_unique : (f : ℕ → ℕ) → ((i : ℕ) → i < n → f (get_or p i 0) ≡ f i) → ((i : ℕ) → i < n → get_or p i 0 ≡ i → f i ≡ i)
      → (k i : ℕ) → i ≤ k → i < n → f i ≡ climb p k i
  unfolding climb
  climb_unique f keeps stays zero i h l = stays i l (zero_stays i h l)
  climb_unique f keeps stays (suc k) i h l =
      ⊎_elim (λ (e : get_or p i 0 ≡ i). stays i l e ∙ sym (climb_same p (suc k) i e))
      (λ (m : (get_or p i 0 ≤ k) × (get_or p i 0 < n)). sym (keeps i l) ∙ climb_unique f keeps stays k (get_or p i 0) m.0 m.1)
      (step k i h l)

  pub root_unique : (f : ℕ → ℕ) → ((i : ℕ) → i < n → f (get_or p i 0) ≡ f i) → ((i : ℕ) → i < n → get_or p i 0 ≡ i → f i ≡ i)
      → (i : ℕ) → i < n → root p i ≡ f i
  unfolding root
  root_unique f keeps stays i l = sym (climb_unique f keeps stays i i (le_refl i) l)

  climb_more : (k i : ℕ) → i ≤ k → i < n → climb p (suc k) i ≡ climb p k i
  unfolding climb
  climb_more zero i h l = zero_stays i h l
  climb_more (suc k) i h l =
      ⊎_elim (λ (e : get_or p i 0 ≡ i). climb_same p (suc (suc k)) i e ∙ sym (climb_same p (suc k) i e))
      (λ (m : (get_or p i 0 ≤ k) × (get_or p i 0 < n)). climb_more k (get_or p i 0) m.0 m.1) (step k i h l)

  climb_enough : (k i : ℕ) → i ≤ k → i < n → climb p k i ≡ climb p i i
  climb_enough k i h l = le_ind (λ (m : ℕ). climb p m i ≡ climb p i i) refl (λ m w e. climb_more m i w l ∙ e) k h

  pub root_stays : (i : ℕ) → get_or p i 0 ≡ i → root p i ≡ i
  unfolding root
  root_stays i e = climb_same p i i e

  pub root_parent : (i : ℕ) → i < n → root p (get_or p i 0) ≡ root p i
  unfolding root climb
  root_parent zero l = ap (root p) (zero_stays zero (le_refl zero) l)
  root_parent (suc k) l =
      ⊎_elim (λ (e : get_or p (suc k) 0 ≡ suc k). ap (root p) e)
      (λ (m : (get_or p (suc k) 0 ≤ k) × (get_or p (suc k) 0 < n)). sym (climb_enough k (get_or p (suc k) 0) m.0 m.1))
      (step k (suc k) (le_refl (suc k)) l)

  climb_fixed : (k i : ℕ) → i ≤ k → i < n → (climb p k i ≤ i) × (get_or p (climb p k i) 0 ≡ climb p k i)
  unfolding climb
  climb_fixed zero i h l = (le_refl i, zero_stays i h l)
  climb_fixed (suc k) i h l =
      ⊎_elim (λ (e : get_or p i 0 ≡ i). rw (climb_same p (suc k) i e) (le_refl i, e))
      (λ (m : (get_or p i 0 ≤ k) × (get_or p i 0 < n)).
      let r = climb_fixed k (get_or p i 0) m.0 m.1 in
      let d : get_or p i 0 ≤ i = P.down i l in
      (omega arith, r.1))
      (step k i h l)

  pub root_le : (i : ℕ) → i < n → root p i ≤ i
  unfolding root
  root_le i l = (climb_fixed i i (le_refl i) l).0

  pub root_fixed : (i : ℕ) → i < n → get_or p (root p i) 0 ≡ root p i
  unfolding root
  root_fixed i l = (climb_fixed i i (le_refl i) l).1

  pub root_root : (i : ℕ) → i < n → root p (root p i) ≡ root p i
  root_root i l = root_stays (root p i) (root_fixed i l)

  -- a store of v, at most i, at i leaves parents
  pub parents_set : (i v : ℕ) → i < n → v ≤ i → Parents n (set p i v)
  parents_set i v l h =
      record {
        room = simp length-set P.room;
        small = P.small;
        down = λ k m. go k m (ℕ_discrete k i);
      }
    where
      go : (k : ℕ) → k < n → Dec (k ≡ i) → get_or (set p i v) k 0 ≤ k
      go k m (yes e) = rw e (rw (get_or-set_same p i v 0 (omega (arith, P.room))) h)
      go k m (no e) = rw (get_or-set_other p i k v 0 e) (P.down k m)

module _ {n : ℕ} {p : List ℕ} (P : Parents n p) where
  -- a store keeps every root if what is stored has the same root, and stays only where the parent did
  store_same : (i v : ℕ) → i < n → v ≤ i → root p v ≡ root p i → (v ≡ i → get_or p i 0 ≡ i) → SameRoots n p (set p i v)
  store_same i v l h same stays =
      record {
        parents = parents_set P i v l h;
        roots = λ k m. root_unique (parents_set P i v l h) (root p) (λ j w. keeps j w (ℕ_discrete j i)) (λ j w. ends j w (ℕ_discrete j i)) k m;
        kept = drop-set-lt n p i v l;
      }
    where
      keeps : (j : ℕ) → j < n → Dec (j ≡ i) → root p (get_or (set p i v) j 0) ≡ root p j
      keeps j w (yes e) = rw e (rw (get_or-set_same p i v 0 (omega (arith, P.room))) same)
      keeps j w (no e) = rw (get_or-set_other p i j v 0 e) (root_parent P j w)

      ends : (j : ℕ) → j < n → Dec (j ≡ i) → get_or (set p i v) j 0 ≡ j → root p j ≡ j
      ends j w (yes e) f = rw e (root_stays P i (stays (sym (get_or-set_same p i v 0 (omega (arith, P.room))) ∙ rw e at f)))
      ends j w (no e) f = root_stays P j (sym (get_or-set_other p i j v 0 e) ∙ f)

  -- path halving keeps every root
  pub halved : (i : ℕ) → i < n → SameRoots n p (set p i (get_or p (get_or p i 0) 0))
  halved i l =
      let up : get_or p i 0 ≤ i = P.down i l in
      let more : get_or p (get_or p i 0) 0 ≤ get_or p i 0 = P.down (get_or p i 0) (omega arith) in
      store_same i (get_or p (get_or p i 0) 0) l (omega arith) (root_parent P (get_or p i 0) (omega arith) ∙ root_parent P i l) (λ e. omega arith)

  -- a root stored at a larger one joins the two sets
  joined_roots : (a b : ℕ) → a ≤ b → b < n → get_or p a 0 ≡ a → get_or p b 0 ≡ b → (k : ℕ) → k < n → root (set p b a) k ≡ merged a b (root p k)
  joined_roots a b h l fa fb k m =
      root_unique (parents_set P b a l h) (λ j. merged a b (root p j)) (λ j w. keeps j w (ℕ_discrete j b)) (λ j w. ends j w (ℕ_discrete j b)) k m
    where
      high : max a b ≡ b
      high = omega arith

      low : min a b ≡ a
      low = omega arith

      at_b : merged a b b ≡ a
      at_b = rw (eq-eqb b (max a b) (sym high)) low

      at_a : merged a b a ≡ a
      at_a = go (eqb a (max a b))
        where
          go : (t : Bool) → cond t (min a b) a ≡ a
          go true = low
          go false = refl

      other : (j : ℕ) → (j ≡ b → ⊥) → merged a b j ≡ j
      other j e = rw (ne_eqb j (max a b) (λ f. e (f ∙ high)))

      keeps : (j : ℕ) → j < n → Dec (j ≡ b) → merged a b (root p (get_or (set p b a) j 0)) ≡ merged a b (root p j)
      keeps j w (yes e) =
          rw (e, get_or-set_same p b a 0 (omega (arith, P.room)), root_stays P a fa, root_stays P b fb) (at_a ∙ sym at_b)
      keeps j w (no e) = rw (get_or-set_other p b j a 0 e, root_parent P j w)

      ends : (j : ℕ) → j < n → Dec (j ≡ b) → get_or (set p b a) j 0 ≡ j → merged a b (root p j) ≡ j
      ends j w (yes e) f =
          let g : a ≡ b = sym (get_or-set_same p b a 0 (omega (arith, P.room))) ∙ rw e at f in
          rw (e, root_stays P b fb) (at_b ∙ g)
      ends j w (no e) f = rw (root_stays P j (sym (get_or-set_other p b j a 0 e) ∙ f)) (other j e)

pub same_trans : {n : ℕ} {p q r : List ℕ} → SameRoots n p q → SameRoots n q r → SameRoots n p r
same_trans s t = record { parents = t.parents; roots = λ k l. t.roots k l ∙ s.roots k l; kept = t.kept ∙ s.kept }

merged_comm : (a b k : ℕ) → merged a b k ≡ merged b a k
merged_comm a b k = rw (max_comm a b, min_comm a b)

-- the larger of two roots gets the smaller one as its parent
pub join_roots : {n : ℕ} {p q : List ℕ} {a b x y : ℕ} → SameRoots n p q → a < n → b < n → x ≡ root p a → y ≡ root p b → x ≤ y
    → Joined n p a b true (set q y x)
join_roots {n} {p} {q} {a} {b} {x} {y} S la lb ea eb h =
    let Q = S.parents in
    let ra : x ≡ root q a = ea ∙ sym (S.roots a la) in
    let rb : y ≡ root q b = eb ∙ sym (S.roots b lb) in
    let fa : get_or q x 0 ≡ x = rw ra (root_fixed Q a la) in
    let fb : get_or q y 0 ≡ y = rw rb (root_fixed Q b lb) in
    let low : y ≤ b = rw rb (root_le Q b lb) in
    record {
      parents = parents_set Q y x (omega arith) h;
      roots = λ k m. joined_roots Q x y h (omega arith) fa fb k m ∙ (cc (S.roots k m));
      kept = drop-set-lt n q y x (omega arith) ∙ S.kept;
    }

pub join_swap : {n : ℕ} {p q : List ℕ} {a b : ℕ} → Joined n p a b true q → Joined n p b a true q
join_swap {n} {p} {q} {a} {b} J =
    record { parents = J.parents; roots = λ k m. J.roots k m ∙ merged_comm (root p a) (root p b) (root p k); kept = J.kept }

-- a pair that doesn't touch is passed over
pub join_none : {n : ℕ} {p : List ℕ} {a b : ℕ} → Parents n p → Joined n p a b false p
join_none P = record { parents = P; roots = λ k m. refl; kept = refl }

merged_same : (x k : ℕ) → merged x x k ≡ k
merged_same x k = go (eqb k (max x x)) refl
  where
    go : (t : Bool) → eqb k (max x x) ≡ t → cond t (min x x) k ≡ k
    go true e = let h = eqb-true k (max x x) e in omega arith
    go false e = refl

-- indexes with one parent have one root, so their sets are one without a change
pub join_same : {n : ℕ} {p : List ℕ} {a b : ℕ} → Parents n p → a < n → b < n → get_or p a 0 ≡ get_or p b 0 → Joined n p a b true p
join_same {n} {p} {a} {b} P la lb e =
    let same : root p a ≡ root p b = sym (root_parent P a la) ∙ ap (root p) e ∙ root_parent P b lb in
    record {
      parents = P;
      roots = λ k l. sym (ap (λ (x : ℕ). merged x (root p b) (root p k)) same ∙ merged_same (root p b) (root p k));
      kept = refl;
    }

-- and so whether they touch or not
pub join_one_parent : {n : ℕ} {p : List ℕ} {a b : ℕ} (t : Bool) → Parents n p → a < n → b < n → get_or p a 0 ≡ get_or p b 0 → Joined n p a b t p
join_one_parent true P la lb e = join_same P la lb e
join_one_parent false P la lb e = join_none P

-- what was one set stays one
pub joined_keeps : {n : ℕ} {p q : List ℕ} {a b : ℕ} {t : Bool} → Joined n p a b t q → (i j : ℕ) → i < n → j < n → root p i ≡ root p j → root q i ≡ root q j
joined_keeps {p = p} {a = a} {b} {t} J i j li lj e =
    J.roots i li ∙ ap (λ (x : ℕ). cond t (merged (root p a) (root p b) x) x) e ∙ sym (J.roots j lj)

merged_first : (x y : ℕ) → merged x y x ≡ min x y
merged_first x y = go (eqb x (max x y)) refl
  where
    go : (t : Bool) → eqb x (max x y) ≡ t → cond t (min x y) x ≡ min x y
    go true e = refl
    go false e = let h = eqb-false x (max x y) e in omega arith

-- two that were joined are one set
pub joined_one : {n : ℕ} {p q : List ℕ} {a b : ℕ} → Joined n p a b true q → a < n → b < n → root q a ≡ root q b
joined_one {p = p} {a = a} {b} J la lb =
    let x = root p a in
    let y = root p b in
    J.roots a la ∙ merged_first x y ∙ min_comm x y ∙ sym (merged_first y x) ∙ merged_comm y x y ∙ sym (J.roots b lb)
