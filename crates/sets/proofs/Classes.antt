-- The law of the listing: the classes of a function that represents a rule are its closed sets, each once. It is proved over a domain of indexes
-- below n that a test decides, and taken for all indexes below n.
use mathlib.Core.Path.{◌≡◌, refl, sym, ap, subst, ◌∙◌}
use mathlib.Core.Bool.{Bool, true, ◌&&◌, and-eq-true_iff}
use mathlib.Core.Logic.{inl}
use mathlib.Core.List.{List, [], map}
use Prim.Native.Nat.{ℕ, ◌<◌}
use native.Mathlib.Omega.{arith}
use lib.Dec.{eqb}
use lib.ListN.{length, get_or, length-map}
use borrow.Author.Tests.{eqb-true, eq-eqb}
use Rattle.lists.specs.Lists.{below, keep, In}
use Rattle.lists.proofs.Keep.{in_below, below_in, kept_in, in_kept, in_at, at_in, get_d_map, keep_below_same, map_same}
use Rattle.sets.specs.Closed.{Below, Touching, Ascending, Closed, Once, Listed}
use Rattle.sets.specs.Steps.{Represents, class_of, classes, class_in, classes_in}
use Rattle.sets.proofs.Ascending.{ascending_below, ascending_keep, ascending_same, one_place}
use Rattle.sets.proofs.Chains.{chain_step, chain_map, chain_carry, chain_inside}
use Rattle.sets.proofs.Represents.{along}

-- an index that stands in a list makes it longer than 0
nonempty_in : (s : List ℕ) (i : ℕ) → In s i → 0 < length s
nonempty_in s i m = let w = in_at s i m in let l = w.1 in omega arith

module _ {n : ℕ} {D : ℕ → Type 0} {R : ℕ → ℕ → Type 0} {f : ℕ → ℕ} (q : ℕ → Bool) (inside : (i : ℕ) → D i → (i < n) × (q i ≡ true))
    (domain : (i : ℕ) → i < n → q i ≡ true → D i) (F : Represents D R f) where
  in_class_of : (r i : ℕ) → D i → f i ≡ r → In (class_in n q f r) i
  in_class_of r i d e =
      let w = inside i d in
      in_kept (λ j. q j && eqb (f j) r) (below n) i (in_below n i w.0) ((and-eq-true_iff (q i) (eqb (f i) r)).1 (w.1, eq-eqb (f i) r e))

  class_of_in : (r i : ℕ) → In (class_in n q f r) i → D i × (f i ≡ r)
  class_of_in r i m =
      let w = kept_in (λ j. q j && eqb (f j) r) (below n) i m in
      let v = (and-eq-true_iff (q i) (eqb (f i) r)).0 w.1 in
      (domain i (below_in n i w.0) v.0, eqb-true (f i) r v.1)

  class_ascends : (r : ℕ) → Ascending (class_in n q f r)
  class_ascends r = ascending_keep (λ j. q j && eqb (f j) r) (ascending_below n)

  -- touching carries an index into the class
  carry : (r i j : ℕ) → In (class_in n q f r) i → D j → Touching R i j → In (class_in n q f r) j
  carry r i j m d t =
      let w = class_of_in r i m in
      in_class_of r j d (sym (along F (chain_step w.0 d t)) ∙ w.1)

  class_closed : (r : ℕ) → D r → f r ≡ r → Closed D R (class_in n q f r)
  class_closed r d e =
      record {
        ascending = class_ascends r;
        within = λ i m. (class_of_in r i m).0;
        nonempty = nonempty_in (class_in n q f r) r (in_class_of r r d e);
        joined = λ i j mi mj.
            let wi = class_of_in r i mi in
            let wj = class_of_in r j mj in
            chain_inside (In (class_in n q f r)) (carry r) mi (F.sound i j wi.0 wj.0 (wi.1 ∙ sym wj.1));
        apart = carry r;
      }

  -- a closed set is the class of any of its members
  closed_class : (s : List ℕ) → Closed D R s → (m : ℕ) → In s m → s ≡ class_in n q f (f m)
  closed_class s C m h =
      ascending_same C.ascending (class_ascends (f m))
      (λ i w. in_class_of (f m) i (C.within i w)
      (sym (along F (chain_map C.within (λ a b da db r. chain_step (C.within a da) (C.within b db) (inl r)) (C.joined m i h w)))))
      (λ i w. let v = class_of_in (f m) i w in chain_carry (In s) C.apart h (F.sound m i (C.within m h) v.0 (sym v.1)))

  roots : List ℕ
  roots = keep (λ r. q r && eqb (f r) r) (below n)

  roots_ascend : Ascending roots
  unfolding roots
  roots_ascend = ascending_keep (λ r. q r && eqb (f r) r) (ascending_below n)

  root_at : (k : ℕ) → k < length (classes_in n q f) → (k < length roots) × D (get_or roots k 0) × (f (get_or roots k 0) ≡ get_or roots k 0)
  unfolding roots
  root_at k h =
      let l : k < length roots = rw (length-map roots (class_in n q f)) at h in
      let r = get_or roots k 0 in
      let w = kept_in (λ r. q r && eqb (f r) r) (below n) r (at_in roots k l) in
      let v = (and-eq-true_iff (q r) (eqb (f r) r)).0 w.1 in
      (l, domain r (below_in n r w.0) v.0, eqb-true (f r) r v.1)

  class_at : (k : ℕ) → k < length (classes_in n q f) → get_or (classes_in n q f) k [] ≡ class_in n q f (get_or roots k 0)
  unfolding roots
  class_at k h = get_d_map (class_in n q f) roots k [] (root_at k h).0

  in_roots : (m : ℕ) → D m → In roots (f m)
  unfolding roots
  in_roots m d =
      let w = inside (f m) (F.stays m d) in
      in_kept (λ r. q r && eqb (f r) r) (below n) (f m) (in_below n (f m) w.0)
      ((and-eq-true_iff (q (f m)) (eqb (f (f m)) (f m))).1 (w.1, eq-eqb (f (f m)) (f m) (F.fixed m d)))

  listed_once : (s : List ℕ) → Closed D R s → Once (classes_in n q f) s
  unfolding roots
  listed_once s C =
      let m = get_or s 0 0 in
      let h = at_in s 0 C.nonempty in
      let d = C.within m h in
      let w = in_at roots (f m) (in_roots m d) in
      let k<n : w.0 < length (classes_in n q f) = rw (length-map roots (class_in n q f)) w.1 in
      record {
        number = w.0;
        inside = k<n;
        stands = class_at w.0 k<n ∙ ap (class_in n q f) w.2 ∙ sym (closed_class s C m h);
        only = λ k hk g.
            let v = class_of_in (get_or roots k 0) m (subst (λ (t : List ℕ). In t m) (sym g ∙ class_at k hk) h) in
            one_place roots_ascend k w.0 (root_at k hk).0 w.1 (sym v.1 ∙ sym w.2);
      }

  pub classes_listed_in : Listed D R (classes_in n q f)
  classes_listed_in =
      record {
        closed = λ k h. let w = root_at k h in rw (class_at k h) (class_closed (get_or roots k 0) w.1 w.2);
        once = listed_once;
      }

-- over all indexes below n
pub classes_listed : {n : ℕ} {R : ℕ → ℕ → Type 0} {f : ℕ → ℕ} → Represents (Below n) R f → Listed (Below n) R (classes n f)
classes_listed F = classes_listed_in (λ i. true) (λ i l. (l, refl)) (λ i l e. l) F

pub in_class : (n : ℕ) (f : ℕ → ℕ) (r i : ℕ) → i < n → f i ≡ r → In (class_of n f r) i
in_class n f r i l e = in_kept (λ j. eqb (f j) r) (below n) i (in_below n i l) (eq-eqb (f i) r e)

pub class_in_lem : (n : ℕ) (f : ℕ → ℕ) (r i : ℕ) → In (class_of n f r) i → (i < n) × (f i ≡ r)
class_in_lem n f r i m = let w = kept_in (λ j. eqb (f j) r) (below n) i m in (below_in n i w.0, eqb-true (f i) r w.1)

-- functions that agree below n have the same classes
pub classes_same : (n : ℕ) (f g : ℕ → ℕ) → ((i : ℕ) → i < n → f i ≡ g i) → classes n f ≡ classes n g
classes_same n f g h =
    map_same (class_of n f) (class_of n g) (keep (λ r. eqb (f r) r) (below n))
    (λ r m. keep_below_same (λ i. eqb (f i) r) (λ i. eqb (g i) r) n (λ i l. ap (λ (x : ℕ). eqb x r) (h i l)))
    ∙ ap (map (class_of n g)) (keep_below_same (λ r. eqb (f r) r) (λ r. eqb (g r) r) n (λ r l. ap (λ (x : ℕ). eqb x r) (h r l)))
