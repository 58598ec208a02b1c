-- Each finding of a kind is paired with what it is made from: of the list in which findings are made, one stretch has this kind and no other place has.
use mathlib.Core.Path.{◌≡◌, refl, sym, ap, subst, ◌∙◌}
use mathlib.Core.Logic.{◌⊎◌, inl, inr, ⊎_elim}
use mathlib.Core.List.{List, [], ◌∷◌, ◌++◌, map}
use Prim.Native.Nat.{ℕ, zero, suc, ◌+◌, ◌-◌, ◌<◌}
use native.Mathlib.Nat.{not-suc-le-zero, le_of_suc-le-suc}
use native.Mathlib.Decide.{dec_lt}
use native.Mathlib.Omega.{arith}
use lib.ListN.{length, get_or, length-append, get_or-append}
use lib.Seq.{get_or-append-add}
use Rattle.lists.specs.Lists.{below}
use Rattle.lists.proofs.Keep.{length_values, get_d_values}
use Rattle.evidence.specs.declared.finding.Finding.{Finding}
use Rattle.evidence.specs.Finding.{kind_number}
use Rattle.findings.specs.Keys.{Stands, Ordered}
use Rattle.findings.specs.Pairing.{Paired}

-- what stands in two lists strung together stands in one of them
module _ (xs ys : List Finding) where
  pub stands_left : (m : ℕ) (g : Finding) → Stands xs m g → Stands (xs ++ ys) m g
  stands_left m g s = (let e = length-append xs ys in omega (arith, s.0), get_or-append xs ys g m s.0 ∙ s.1)

  pub stands_right : (m : ℕ) (g : Finding) → Stands ys m g → Stands (xs ++ ys) (length xs + m) g
  stands_right m g s = (let e = length-append xs ys in omega (arith, s.0), get_or-append-add xs ys m g ∙ s.1)

  pub stands_either : (m : ℕ) (g : Finding) → Stands (xs ++ ys) m g → Stands xs m g ⊎ ((j : ℕ) × (length xs + j ≡ m) × Stands ys j g)
  stands_either m g s = go (dec_lt m (length xs))
    where
      go : Dec (m < length xs) → Stands xs m g ⊎ ((j : ℕ) × (length xs + j ≡ m) × Stands ys j g)
      go (yes h) = inl (h, sym (get_or-append xs ys g m h) ∙ s.1)
      go (no h) =
          let j = m - length xs in
          let e : length xs + j ≡ m = omega arith in
          inr (j, e, (let a = length-append xs ys in omega (arith, s.0), sym (get_or-append-add xs ys j g) ∙ ap (λ (i : ℕ). get_or (xs ++ ys) i g) e ∙ s.1))

-- no finding of a list has this kind
abbrev pub Without : ℕ → List Finding → Type 0
Without kind xs = (m : ℕ) (g : Finding) → Stands xs m g → kind_number g.kind ≡ kind → ⊥

pub without_both : (kind : ℕ) (xs ys : List Finding) → Without kind xs → Without kind ys → Without kind (xs ++ ys)
without_both kind xs ys a b m g s e =
    ⊎_elim (λ (t : Stands xs m g). a m g t e) (λ (t : (j : ℕ) × (length xs + j ≡ m) × Stands ys j g). b t.0 g t.2 e) (stands_either xs ys m g s)

pub without_none : (kind : ℕ) → Without kind []
without_none kind m g s e = not-suc-le-zero s.0

-- the findings that n items make
module _ (n : ℕ) (f : ℕ → Finding) where
  abbrev items : List Finding
  items = map f (below n)

  item_stands : (k : ℕ) → k < n → Stands items k (f k)
  item_stands k h = (rw (length_values f n) h, get_d_values f n k (f k) h)

  pub stands_item : (m : ℕ) (g : Finding) → Stands items m g → (m < n) × (g ≡ f m)
  stands_item m g s = let h : m < n = rw (length_values f n) at s.0 in (h, sym s.1 ∙ get_d_values f n m g h)

  pub items_without : (kind other : ℕ) → ((k : ℕ) → k < n → kind_number (f k).kind ≡ kind) → (kind ≡ other → ⊥) → Without other items
  items_without kind other of_kind apart m g s e =
      let t = stands_item m g s in apart (sym (of_kind m t.0) ∙ ap (λ (h : Finding). kind_number h.kind) (sym t.1) ∙ e)

  -- they stand between others that have another kind
  pub stretch : (kind : ℕ) (before after : List Finding) {fs : List Finding} {from : ℕ → ℕ} → Ordered (before ++ items ++ after) fs from
      → ((k : ℕ) → k < n → kind_number (f k).kind ≡ kind) → Without kind before → Without kind after → (place : ℕ → ℕ) × Paired kind n f fs place
  stretch kind before after {fs} {from} O of_kind clear clear' = (place, record { made = made; of_kind = of_kind; apart = apart; no_other = no_other })
    where
      all : List Finding
      all = before ++ items ++ after

      inside : (k : ℕ) → k < n → Stands all (length before + k) (f k)
      inside k h = stands_left (before ++ items) after (length before + k) (f k) (stands_right before items k (f k) (item_stands k h))

      ranked : (k : ℕ) → k < n → (i : ℕ) × (i < length fs) × (from i ≡ length before + k)
      ranked k h = O.each (length before + k) (inside k h).0

      chosen : (k : ℕ) → Dec (k < n) → ℕ
      chosen k (yes h) = (ranked k h).0
      chosen k (no h) = 0

      place : ℕ → ℕ
      place k = chosen k (dec_lt k n)

      placed : (k : ℕ) → k < n → (d : Dec (k < n)) → (chosen k d < length fs) × (from (chosen k d) ≡ length before + k)
      placed k l (yes h) = ((ranked k h).1, (ranked k h).2)
      placed k l (no h) = absurd (h l)

      at : (k : ℕ) → k < n → (place k < length fs) × (from (place k) ≡ length before + k)
      at k h = placed k h (dec_lt k n)

      -- what stands at a place of the order is what its number in the list is
      same : (i m : ℕ) (g : Finding) → i < length fs → from i ≡ m → Stands all m g → Stands fs i g
      same i m g l e s =
          let t = O.is i (get_or fs i g) (l, inner fs i g l) in
          let u : Stands all m (get_or fs i g) = subst (λ (j : ℕ). Stands all j (get_or fs i g)) e t in
          (l, sym (known all m (get_or fs i g) g u) ∙ s.1)
        where
          inner : (xs : List Finding) (i : ℕ) (d : Finding) → i < length xs → get_or xs i (get_or xs i d) ≡ get_or xs i d
          inner [] i d l = absurd (not-suc-le-zero l)
          inner (x ∷ xs) zero d l = refl
          inner (x ∷ xs) (suc i) d l = inner xs i d (le_of_suc-le-suc l)

          known : (xs : List Finding) (m : ℕ) (a d : Finding) → Stands xs m a → get_or xs m d ≡ a
          known [] m a d (l, e) = absurd (not-suc-le-zero l)
          known (x ∷ xs) zero a d (l, e) = e
          known (x ∷ xs) (suc m) a d (l, e) = known xs m a d (le_of_suc-le-suc l, e)

      made : (k : ℕ) → k < n → Stands fs (place k) (f k)
      made k h = same (place k) (length before + k) (f k) (at k h).0 (at k h).1 (inside k h)

      apart : (j k : ℕ) → j < n → k < n → place j ≡ place k → j ≡ k
      apart j k a b e = let s : length before + j ≡ length before + k = sym (at j a).1 ∙ ap from e ∙ (at k b).1 in omega arith

      number : (i : ℕ) (g : Finding) → Stands fs i g → kind_number g.kind ≡ kind → (k : ℕ) × (k < n) × (length before + k ≡ from i)
      number i g s e =
          ⊎_elim
          (λ (t : Stands (before ++ items) (from i) g).
          ⊎_elim (λ (u : Stands before (from i) g). absurd (clear (from i) g u e))
          (λ (u : (j : ℕ) × (length before + j ≡ from i) × Stands items j g). (u.0, (stands_item u.0 g u.2).0, u.1))
          (stands_either before items (from i) g t))
          (λ (t : (j : ℕ) × (length (before ++ items) + j ≡ from i) × Stands after j g). absurd (clear' t.0 g t.2 e))
          (stands_either (before ++ items) after (from i) g (O.is i g s))

      no_other : (i : ℕ) (g : Finding) → Stands fs i g → kind_number g.kind ≡ kind → (k : ℕ) × (k < n) × (place k ≡ i)
      no_other i g s e =
          let t = number i g s e in
          let h = t.1 in
          (t.0, h, O.apart (place t.0) i (at t.0 h).0 s.0 ((at t.0 h).1 ∙ t.2))
