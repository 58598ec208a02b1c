-- Laws of chains: they are put together, turned round, and carried from one rule to another.
use mathlib.Core.Path.{◌≡◌, refl, sym, ◌∙◌}
use mathlib.Core.Logic.{inl, inr, ⊎_elim}
use Prim.Native.Nat.{ℕ}
use Rattle.sets.specs.Closed.{Touching, Chain, here, next}

module _ {S : ℕ → Type 0} {R : ℕ → ℕ → Type 0} where
  pub chain_first : {i j : ℕ} → Chain S R i j → S i
  chain_first (here s) = s
  chain_first (next s t c) = s

  pub chain_last : {i j : ℕ} → Chain S R i j → S j
  chain_last (here s) = s
  chain_last (next s t c) = chain_last c

  pub chain_append : {i j k : ℕ} → Chain S R i j → Chain S R j k → Chain S R i k
  chain_append (here s) d = d
  chain_append (next s t c) d = next s t (chain_append c d)

  -- one step, of two that touch
  pub chain_step : {i j : ℕ} → S i → S j → Touching R i j → Chain S R i j
  chain_step s u t = next s t (here u)

  pub chain_back : {i j : ℕ} → Chain S R i j → Chain S R j i
  chain_back (here s) = here s
  chain_back (next s t c) = chain_append (chain_back c) (chain_step (chain_first c) s (⊎_elim inr inl t))

  -- what touching members agree on, the ends of a chain agree on
  pub chain_agree : (f : ℕ → ℕ) → ((i j : ℕ) → S i → S j → R i j → f i ≡ f j) → {i j : ℕ} → Chain S R i j → f i ≡ f j
  chain_agree f agree (here s) = refl
  chain_agree f agree (next {i} {j} s t c) =
      ⊎_elim (λ (r : R i j). agree i j s (chain_first c) r) (λ (r : R j i). sym (agree j i (chain_first c) s r)) t ∙ chain_agree f agree c

  -- what passes from member to touching member passes along a chain
  pub chain_carry : (P : ℕ → Type 0) → ((i j : ℕ) → P i → S j → Touching R i j → P j) → {i j : ℕ} → P i → Chain S R i j → P j
  chain_carry P pass p (here s) = p
  chain_carry P pass p (next {i} {j} s t c) = chain_carry P pass (pass i j p (chain_first c) t) c

  -- the same, and the chain is one of members of P
  pub chain_inside : (P : ℕ → Type 0) → ((i j : ℕ) → P i → S j → Touching R i j → P j) → {i j : ℕ} → P i → Chain S R i j → Chain P R i j
  chain_inside P pass p (here s) = here p
  chain_inside P pass p (next {i} {j} s t c) = next p t (chain_inside P pass (pass i j p (chain_first c) t) c)

-- a chain of one rule is a chain of another, if each of its steps is
pub chain_map : {S S' : ℕ → Type 0} {R R' : ℕ → ℕ → Type 0} → ((i : ℕ) → S i → S' i) → ((i j : ℕ) → S i → S j → R i j → Chain S' R' i j)
    → {i j : ℕ} → Chain S R i j → Chain S' R' i j
chain_map wide each (here s) = here (wide _ s)
chain_map {R} wide each (next {i} {j} s t c) =
    chain_append
    (⊎_elim (λ (r : R i j). each i j s (chain_first c) r) (λ (r : R j i). chain_back (each j i (chain_first c) s r)) t)
    (chain_map wide each c)
