-- A caller that tries all pairs i < j in order: which pairs it has seen, and that in the end they are the whole rule.
use mathlib.Core.Path.{◌≡◌, refl}
use mathlib.Core.Bool.{Bool, true}
use mathlib.Core.Logic.{◌⊎◌, inl, inr}
use mathlib.Core.List.{List}
use Prim.Native.Nat.{ℕ, ◌+◌, ◌≤◌, ◌<◌}
use native.Mathlib.Decide.{dec_lt, ℕ_discrete}
use native.Mathlib.Omega.{arith}
use Rattle.lists.specs.Lists.{below, written}
use Rattle.sets.specs.Closed.{Touching, Chain, here}
use Rattle.sets.specs.Steps.{Joins, Seen, Room, Joined}
use Rattle.sets.proofs.Chains.{chain_step}
use Rattle.sets.proofs.Joins.{joins_none, joins_more, joins_same, joins_exchange}

-- no pair stands before the first of row 0
pub pairs_begin : {n : ℕ} {p : List ℕ} (D : ℕ → Type 0) (R : ℕ → ℕ → Type 0) → Room n p → ((i : ℕ) → D i → i < n)
    → Joins n D (Seen R 0 1) (written (below n) p)
pairs_begin D R room inside = joins_none room D inside (Seen R 0 1) (λ a b da db s. none a b s.order s.before)
  where
    none : (a b : ℕ) → a < b → (a < 0) ⊎ ((a ≡ 0) × (b < 1)) → ⊥
    none a b o (inl l) = omega arith
    none a b o (inr l) = let x = l.0 in let y = l.1 in omega arith

module _ {n : ℕ} {D : ℕ → Type 0} (R : ℕ → ℕ → Type 0) {p : List ℕ} where
  -- the pair i, j is seen: joined if it touches
  pub pair_next : {q : List ℕ} {i j : ℕ} (touch : Bool) → Joins n D (Seen R i j) p → D i → D j → i < j → Joined n p i j touch q
      → (touch ≡ true → Touching R i j) → (Touching R i j → touch ≡ true) → Joins n D (Seen R i (j + 1)) q
  pair_next {q} {i} {j} touch J di dj l Q sound complete =
      joins_more J (λ a b da db s. record { touch = s.touch; order = s.order; before = later a b s.before }) di dj touch Q
      (λ a b da db s. split a b s s.before)
      (λ e. inl (record { touch = sound e; order = l; before = inr (refl, omega arith) }))
    where
      later : (a b : ℕ) → (a < i) ⊎ ((a ≡ i) × (b < j)) → (a < i) ⊎ ((a ≡ i) × (b < j + 1))
      later a b (inl h) = inl h
      later a b (inr h) = inr (h.0, omega arith)

      split : (a b : ℕ) → Seen R i (j + 1) a b → (a < i) ⊎ ((a ≡ i) × (b < j + 1)) → Seen R i j a b ⊎ ((a ≡ i) × (b ≡ j) × (touch ≡ true))
      split a b s (inl h) = inl (record { touch = s.touch; order = s.order; before = inl h })
      split a b s (inr h) =
          elim (ℕ_discrete b j) [
            | yes e ↦ inr (h.0, e, complete (rw (h.0, e) at s.touch))
            | no e ↦ inl (record { touch = s.touch; order = s.order; before = inr (h.0, omega arith) })
          ]

  -- a row is done: the next begins
  pub row_next : {i k : ℕ} → Joins n D (Seen R i n) p → k ≤ i + 2 → Joins n D (Seen R (i + 1) k) p
  row_next {i} {k} J h =
      joins_same J (λ a b da db s. record { touch = s.touch; order = s.order; before = inl (to a b s.before) })
      (λ a b da db s. record { touch = s.touch; order = s.order; before = from a b (J.inside b db) s.order s.before })
    where
      to : (a b : ℕ) → (a < i) ⊎ ((a ≡ i) × (b < n)) → a < i + 1
      to a b (inl l) = omega arith
      to a b (inr l) = omega arith

      from : (a b : ℕ) → b < n → a < b → (a < i + 1) ⊎ ((a ≡ i + 1) × (b < k)) → (a < i) ⊎ ((a ≡ i) × (b < n))
      from a b m o (inl l) = elim (ℕ_discrete a i) [ yes e ↦ inr (e, m) | no e ↦ inl (omega arith) ]
      from a b m o (inr l) = absurd (let x = l.0 in let y = l.1 in omega arith)

  -- all pairs are seen: the whole rule
  pub all_seen : {i k : ℕ} → Joins n D (Seen R i k) p → n ≤ i → Joins n D R p
  all_seen {i} {k} J h =
      joins_exchange J (λ a b da db s. chain_step da db s.touch) (λ a b da db r. whole a b da db r (dec_lt a b) (dec_lt b a))
    where
      whole : (a b : ℕ) → D a → D b → R a b → Dec (a < b) → Dec (b < a) → Chain D (Seen R i k) a b
      whole a b da db r (yes l) o =
          let m = J.inside a da in chain_step da db (inl (record { touch = inl r; order = l; before = inl (omega arith) }))
      whole a b da db r (no l) (yes o) =
          let m = J.inside b db in chain_step da db (inr (record { touch = inr r; order = o; before = inl (omega arith) }))
      whole a b da db r (no l) (no o) = let e : a ≡ b = omega arith in rw e (here db)
