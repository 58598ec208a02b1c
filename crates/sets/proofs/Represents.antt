-- A function that gives each index of a domain the smallest index of its closed set. The roots of parents are one, once the caller's rule is joined.
use mathlib.Core.Path.{◌≡◌, sym}
use Prim.Native.Nat.{ℕ, ◌≤◌}
use native.Mathlib.Nat.{le_antisymm}
use native.Mathlib.Omega.{arith}
use Rattle.sets.specs.Closed.{Chain}
use Rattle.sets.specs.Steps.{LeastOf, Represents}
use Rattle.sets.proofs.Chains.{chain_last, chain_agree, chain_map}

module _ {D : ℕ → Type 0} {R : ℕ → ℕ → Type 0} {f : ℕ → ℕ} (F : Represents D R f) where
  pub along : {i j : ℕ} → Chain D R i j → f i ≡ f j
  along c = chain_agree f F.complete c

  -- the representative is the smallest index of the closed set
  pub represents_smallest : (i : ℕ) → D i → LeastOf D R i (f i)
  represents_smallest i d =
      record {
        member = F.sound i (f i) d (F.stays i d) (sym (F.fixed i d));
        least = λ j c. let e : f i ≡ f j = along c in let l : f j ≤ j = F.low j (chain_last c) in omega arith;
      }

  -- another rule with the same chains has the same representatives
  pub represents_exchange : {R' : ℕ → ℕ → Type 0} → ((i j : ℕ) → D i → D j → R i j → Chain D R' i j) → ((i j : ℕ) → D i → D j → R' i j → Chain D R i j)
      → Represents D R' f
  represents_exchange to from =
      record {
        stays = F.stays;
        low = F.low;
        fixed = F.fixed;
        sound = λ i j di dj e. chain_map (λ k d. d) to (F.sound i j di dj e);
        complete = λ i j di dj r. along (from i j di dj r);
      }

-- two functions that represent one rule agree
pub represents_unique : {D : ℕ → Type 0} {R : ℕ → ℕ → Type 0} {f g : ℕ → ℕ} → Represents D R f → Represents D R g → (i : ℕ) → D i → f i ≡ g i
represents_unique {f} {g} F G i d =
    le_antisymm ((represents_smallest F i d).least (g i) (represents_smallest G i d).member)
    ((represents_smallest G i d).least (f i) (represents_smallest F i d).member)
