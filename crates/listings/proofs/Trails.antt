-- Where each member points at the next of its set, the trail from a root is its set.
use mathlib.Core.Path.{◌≡◌, refl, sym, ap, subst, ◌∙◌}
use mathlib.Core.Bool.{Bool}
use mathlib.Core.Logic.{◌⊎◌, inl, inr}
use mathlib.Core.List.{List, [], ◌∷◌, ◌++◌}
use Prim.Native.Nat.{ℕ, zero, suc, ◌+◌, ◌≤◌, ◌<◌}
use native.Mathlib.Omega.{arith}
use lib.Dec.{eqb}
use lib.Seq.{append_snoc}
use borrow.Author.Tests.{eq-eqb, ne_eqb}
use Rattle.lists.specs.Lists.{below, keep}
use Rattle.lists.proofs.Sizes.{keep_one, keep_gap, keep_none}
use Rattle.sets.specs.Steps.{class_of, entry, Flat, First, Threaded, Rising, Trail}
use Rattle.sets.specs.Steps.{found, none, last, more}

first_rises : {n : ℕ} {p : List ℕ} {r j k : ℕ} → First n p r (suc j) k → (k ≡ 0) ⊎ ((j < k) × (k < n))
first_rises (found l m e clear) = inr (l, m)
first_rises (none clear) = inl refl

pub threaded_rises : {n : ℕ} {p next : List ℕ} → Flat n p → Threaded n p next → Rising n next
threaded_rises F T = record { room = T.room; small = F.small; rises = λ j l. first_rises (T.after j l) }

module _ {n : ℕ} {p next : List ℕ} (F : Flat n p) (T : Threaded n p next) (r : ℕ) where
  q : ℕ → Bool
  q j = eqb (entry p j) r

  -- the trail from i on, behind the members before i, makes the whole set
  record From (i : ℕ) : Type 0 where
    met : List ℕ
    trail : Trail next i met
    whole : keep q (below i) ++ met ≡ keep q (below n)

  -- by the number k of indexes that are left
  from : (k i : ℕ) → n ≤ i + k → i < n → entry p i ≡ r → From i
  unfolding q
  from zero i h l e = absurd (omega arith)
  from (suc k) i h l e = go (from k) (subst (λ (x : ℕ). First n p x (suc i) (entry next i)) e (T.after i l)) refl
    where
      self : keep q (below (suc i)) ≡ keep q (below i) ++ (i ∷ [])
      self = keep_one q i (eq-eqb (entry p i) r e)

      go : ((m : ℕ) → n ≤ m + k → m < n → entry p m ≡ r → From m) → {m : ℕ} → First n p r (suc i) m → entry next i ≡ m → From i
      go rest (none clear) z =
          record {
            met = i ∷ [];
            trail = last z;
            whole = sym (keep_gap q (suc i) n l (λ j a b. ne_eqb (entry p j) r (clear j a b)) ∙ self);
          }
      go rest (found {k = m} a b f clear) z =
          let R = rest m (omega arith) b f in
          record {
            met = i ∷ R.met;
            trail = more (λ (o : entry next i ≡ 0). omega arith) (subst (λ (x : ℕ). Trail next x R.met) (sym z) R.trail);
            whole =
                sym (append_snoc (keep q (below i)) i R.met)
                ∙ ap (λ (w : List ℕ). w ++ R.met) (sym self ∙ sym (keep_gap q (suc i) m a (λ j c d. ne_eqb (entry p j) r (clear j c d))))
                ∙ R.whole;
          }

  pub trail_class : r < n → entry p r ≡ r → Trail next r (class_of n (entry p) r)
  unfolding q
  trail_class l e =
      let R = from n r (omega arith) l e in
      let nothing : keep q (below r) ≡ [] = keep_none q r (λ m h. ne_eqb (entry p m) r (λ f. let g = F.low m (omega arith) in omega arith)) in
      subst (λ (t : List ℕ). Trail next r t) (sym (ap (λ (w : List ℕ). w ++ R.met) nothing) ∙ R.whole) R.trail
