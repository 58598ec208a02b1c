-- The link from parents to a rule: once the pairs of a rule are joined, the roots represent it.
use mathlib.Core.Path.{◌≡◌, refl, sym, ap, ◌∙◌}
use mathlib.Core.Bool.{Bool, true, false, cond, false≢true}
use mathlib.Core.Logic.{◌⊎◌, inl, inr, ⊎_elim}
use mathlib.Core.List.{List}
use Prim.Native.Nat.{ℕ, ◌<◌, min, max}
use native.Mathlib.Decide.{dec_le}
use native.Mathlib.Omega.{arith}
use lib.Dec.{eqb}
use lib.ListN.{get_or}
use borrow.Author.Tests.{eqb-true, eq-eqb}
use Rattle.lists.specs.Lists.{below, written}
use Rattle.lists.proofs.Keep.{length_below, get_d_below}
use Rattle.lists.proofs.Written.{written_length, written_at}
use Rattle.sets.specs.Closed.{Touching, Chain, here}
use Rattle.sets.specs.Steps.{Joins, Room, Parents, root, SameRoots, merged, Joined}
use Rattle.sets.proofs.Chains.{chain_append, chain_back, chain_step, chain_map}
use Rattle.sets.proofs.Represents.{represents_exchange}
use Rattle.sets.proofs.Roots.{root_stays, root_le, root_root}

module _ {n : ℕ} {p : List ℕ} (R : Room n p) where
  alone_at : (i : ℕ) → i < n → get_or (written (below n) p) i 0 ≡ i
  alone_at i l = written_at (below n) p i 0 (rw (length_below n) l) ∙ get_d_below n i l

  -- what `begin` leaves are parents, each index its own
  pub alone_parents : Parents n (written (below n) p)
  alone_parents =
      record {
        room = rw (written_length (below n) p (rw (length_below n) R.room)) R.room;
        small = R.small;
        down = λ i l. let e = alone_at i l in omega arith;
      }

  -- nothing joined yet: a rule that holds of no two indexes of the domain
  pub joins_none : (D : ℕ → Type 0) → ((i : ℕ) → D i → i < n) → (Q : ℕ → ℕ → Type 0) → ((i j : ℕ) → D i → D j → Q i j → ⊥)
      → Joins n D Q (written (below n) p)
  joins_none D inside Q never =
      record {
        parents = alone_parents;
        inside = inside;
        roots =
            record {
              stays = λ i d. rw (at i d) d;
              low = λ i d. let e = at i d in omega arith;
              fixed = λ i d. ap (root (written (below n) p)) (at i d);
              sound = λ i j di dj e. rw (sym (at i di) ∙ e ∙ at j dj) (here dj);
              complete = λ i j di dj q. absurd (never i j di dj q);
            };
      }
    where
      at : (i : ℕ) → D i → root (written (below n) p) i ≡ i
      at i d = root_stays alone_parents i (alone_at i (inside i d))

-- two roots that are one after a join were one, or are those of the pair
merged_cases : (x y u v : ℕ) → merged x y u ≡ merged x y v → (u ≡ v) ⊎ (((u ≡ x) × (v ≡ y)) ⊎ ((u ≡ y) × (v ≡ x)))
merged_cases x y u v e = go (eqb u (max x y)) (eqb v (max x y)) refl refl e
  where
    split : (s t : ℕ) → s ≡ max x y → t ≡ min x y → ((s ≡ x) × (t ≡ y)) ⊎ ((s ≡ y) × (t ≡ x))
    split s t f g = elim (dec_le x y) [ yes h ↦ inr (omega arith, omega arith) | no h ↦ inl (omega arith, omega arith) ]

    go : (s t : Bool) → eqb u (max x y) ≡ s → eqb v (max x y) ≡ t → cond s (min x y) u ≡ cond t (min x y) v
        → (u ≡ v) ⊎ (((u ≡ x) × (v ≡ y)) ⊎ ((u ≡ y) × (v ≡ x)))
    go true true f g e = inl (eqb-true u (max x y) f ∙ sym (eqb-true v (max x y) g))
    go true false f g e = inr (split u v (eqb-true u (max x y) f) (sym e))
    go false true f g e = inr (⊎_elim (λ w. inr (w.1, w.0)) (λ w. inl (w.1, w.0)) (split v u (eqb-true v (max x y) g) e))
    go false false f g e = inl e

-- the roots of the pair are one
merged_one : (x y : ℕ) → merged x y x ≡ merged x y y
merged_one x y =
    elim (dec_le x y) [
      | yes h ↦ let hi : y ≡ max x y = omega arith in go x (eqb x (max x y)) (omega arith) ∙ sym (ap (λ (t : Bool). cond t (min x y) y) (eq-eqb y (max x y) hi))
      | no h ↦ let hi : x ≡ max x y = omega arith in ap (λ (t : Bool). cond t (min x y) x) (eq-eqb x (max x y) hi) ∙ sym (go y (eqb y (max x y)) (omega arith))
    ]
  where
    go : (s : ℕ) (t : Bool) → s ≡ min x y → cond t (min x y) s ≡ min x y
    go s true e = refl
    go s false e = e

-- joining some pairs serves for all that their chains join; so does a rule that is the same below n
pub joins_exchange : {n : ℕ} {D : ℕ → Type 0} {R R' : ℕ → ℕ → Type 0} {p : List ℕ} → Joins n D R p
    → ((i j : ℕ) → D i → D j → R i j → Chain D R' i j) → ((i j : ℕ) → D i → D j → R' i j → Chain D R i j) → Joins n D R' p
joins_exchange J to from = record { parents = J.parents; inside = J.inside; roots = represents_exchange J.roots to from }

-- a rule that is the same on the domain
pub joins_same : {n : ℕ} {D : ℕ → Type 0} {R R' : ℕ → ℕ → Type 0} {p : List ℕ} → Joins n D R p
    → ((i j : ℕ) → D i → D j → R i j → R' i j) → ((i j : ℕ) → D i → D j → R' i j → R i j) → Joins n D R' p
joins_same J to from =
    joins_exchange J (λ i j di dj r. chain_step di dj (inl (to i j di dj r))) (λ i j di dj r. chain_step di dj (inl (from i j di dj r)))

-- parents with the same roots join the same: what `find` leaves
pub joins_kept : {n : ℕ} {D : ℕ → Type 0} {R : ℕ → ℕ → Type 0} {p q : List ℕ} → Joins n D R p → SameRoots n p q → Joins n D R q
joins_kept {D} {p = p} {q = q} J S =
    record {
      parents = S.parents;
      inside = J.inside;
      roots =
          record {
            stays = λ i d. rw (at i d) (J.roots.stays i d);
            low = λ i d. root_le S.parents i (J.inside i d);
            fixed = λ i d. root_root S.parents i (J.inside i d);
            sound = λ i j di dj e. J.roots.sound i j di dj (sym (at i di) ∙ e ∙ at j dj);
            complete = λ i j di dj r. at i di ∙ J.roots.complete i j di dj r ∙ sym (at j dj);
          };
    }
  where
    at : (i : ℕ) → D i → root q i ≡ root p i
    at i d = S.roots i (J.inside i d)

module _ {n : ℕ} {D : ℕ → Type 0} {R R' : ℕ → ℕ → Type 0} {p : List ℕ} (J : Joins n D R p)
    (grows : (i j : ℕ) → D i → D j → R i j → R' i j) where
  wider : {i j : ℕ} → Chain D R i j → Chain D R' i j
  wider c = chain_map (λ i d. d) (λ i j di dj r. chain_step di dj (inl (grows i j di dj r))) c

  joined_one : {q : List ℕ} {a b : ℕ} → D a → D b → Joined n p a b true q → ((i j : ℕ) → D i → D j → R' i j → R i j ⊎ ((i ≡ a) × (j ≡ b))) → Touching R' a b → Joins n D R' q
  joined_one {q} {a} {b} da db Q only touch =
      record {
        parents = Q.parents;
        inside = J.inside;
        roots =
            record {
              stays = λ i d. rw (now i d) (keeps (root p i) (J.roots.stays i d) (eqb (root p i) (max (root p a) (root p b))));
              low = λ i d. root_le Q.parents i (J.inside i d);
              fixed = λ i d. root_root Q.parents i (J.inside i d);
              sound = λ i j di dj e. joined di dj (merged_cases (root p a) (root p b) (root p i) (root p j) (sym (now i di) ∙ e ∙ now j dj));
              complete = λ i j di dj r.
                  now i di
                  ∙ ⊎_elim (λ (s : R i j). ap (merged (root p a) (root p b)) (J.roots.complete i j di dj s))
                  (λ (s : (i ≡ a) × (j ≡ b)). rw (s.0, s.1) (merged_one (root p a) (root p b))) (only i j di dj r)
                  ∙ sym (now j dj);
            };
      }
    where
      now : (i : ℕ) → D i → root q i ≡ merged (root p a) (root p b) (root p i)
      now i d = Q.roots i (J.inside i d)

      least : D (min (root p a) (root p b))
      least =
          elim (dec_le (root p a) (root p b)) [
            | yes h ↦ let e : min (root p a) (root p b) ≡ root p a = omega arith in rw e (J.roots.stays a da)
            | no h ↦ let e : min (root p a) (root p b) ≡ root p b = omega arith in rw e (J.roots.stays b db)
          ]

      keeps : (u : ℕ) → D u → (t : Bool) → D (cond t (min (root p a) (root p b)) u)
      keeps u d true = least
      keeps u d false = d

      old : {i j : ℕ} → D i → D j → root p i ≡ root p j → Chain D R' i j
      old {i} {j} di dj e = wider (J.roots.sound i j di dj e)

      joined : {i j : ℕ} → D i → D j → (root p i ≡ root p j) ⊎ (((root p i ≡ root p a) × (root p j ≡ root p b)) ⊎ ((root p i ≡ root p b) × (root p j ≡ root p a))) → Chain D R' i j
      joined di dj (inl e) = old di dj e
      joined di dj (inr (inl w)) = chain_append (old di da w.0) (chain_append (chain_step da db touch) (old db dj (sym w.1)))
      joined di dj (inr (inr w)) = chain_append (old di db w.0) (chain_append (chain_back (chain_step da db touch)) (old da dj (sym w.1)))

  passed_over : {q : List ℕ} {a b : ℕ} → Joined n p a b false q → ((i j : ℕ) → D i → D j → R' i j → R i j) → Joins n D R' q
  passed_over Q only = joins_same (joins_kept J (record { parents = Q.parents; roots = Q.roots; kept = Q.kept })) grows only

  -- one more pair: joined if it touches, else passed over
  pub joins_more : {q : List ℕ} {a b : ℕ} → D a → D b → (touch : Bool) → Joined n p a b touch q
      → ((i j : ℕ) → D i → D j → R' i j → R i j ⊎ ((i ≡ a) × (j ≡ b) × (touch ≡ true))) → (touch ≡ true → Touching R' a b) → Joins n D R' q
  joins_more da db true Q only new = joined_one da db Q (λ i j di dj r. ⊎_elim inl (λ s. inr (s.0, s.1)) (only i j di dj r)) (new refl)
  joins_more da db false Q only new = passed_over Q (λ i j di dj r. ⊎_elim (λ s. s) (λ s. absurd (false≢true s.2)) (only i j di dj r))
