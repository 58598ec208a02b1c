-- A loop that stores one value after the other, from place `at` on: nothing yet, one more, all.
use mathlib.Core.Path.{◌≡◌, refl, sym, subst, ◌∙◌}
use mathlib.Core.Logic.{◌⊎◌, inl, inr}
use mathlib.Core.List.{List, map}
use Prim.Native.Nat.{ℕ, ◌+◌, ◌-◌, ◌≤◌, ◌<◌}
use native.Mathlib.Decide.{dec_lt}
use native.Mathlib.Omega.{arith}
use lib.ListN.{length, get_or, set, length-set}
use lib.Seq.{sets, length-sets, get_or-set_same, get_or-set_other, ext_get_or}
use Rattle.lists.specs.Lists.{below}
use Rattle.lists.proofs.Keep.{length_values, get_d_values}
use Rattle.lists.proofs.Stores.{sets_at, sets_other}

-- the first k values are stored, each of them as P says, and what stands elsewhere is as it was
pub record Putting (P : ℕ → ℕ → Type 0) (at : ℕ) (list₀ : List ℕ) (k : ℕ) (list : List ℕ) : Type 0 where
  pub long : length list ≡ length list₀
  pub made : (j : ℕ) → j < k → P j (get_or list (at + j) 0)
  pub rest : (i : ℕ) → (i < at) ⊎ (at + k ≤ i) → get_or list i 0 ≡ get_or list₀ i 0

module _ (P : ℕ → ℕ → Type 0) (at : ℕ) (list₀ : List ℕ) where
  pub putting_none : Putting P at list₀ 0 list₀
  putting_none = record { long = refl; made = λ j l. absurd (omega arith); rest = λ i o. refl }

  module _ {k : ℕ} {list : List ℕ} (W : Putting P at list₀ k list) where
    pub putting_more : {v : ℕ} → at + k < length list → P k v → Putting P at list₀ (k + 1) (set list (at + k) v)
    putting_more {v} h p =
        record {
          long = length-set list (at + k) v ∙ W.long;
          made = λ j m. made_now j (dec_lt j k) m;
          rest = λ i o. get_or-set_other list (at + k) i v 0 (apart i o) ∙ W.rest i (fewer i o);
        }
      where
        made_now : (j : ℕ) → Dec (j < k) → j < k + 1 → P j (get_or (set list (at + k) v) (at + j) 0)
        made_now j (yes l) m = rw (get_or-set_other list (at + k) (at + j) v 0 (λ e. omega arith)) (W.made j l)
        made_now j (no l) m =
            let e : k ≡ j = omega arith in
            subst (λ (i : ℕ). P i (get_or (set list (at + k) v) (at + i) 0)) e (rw (get_or-set_same list (at + k) v 0 h) p)

        apart : (i : ℕ) → (i < at) ⊎ (at + (k + 1) ≤ i) → i ≡ at + k → ⊥
        apart i (inl l) e = omega arith
        apart i (inr l) e = omega arith

        fewer : (i : ℕ) → (i < at) ⊎ (at + (k + 1) ≤ i) → (i < at) ⊎ (at + k ≤ i)
        fewer i (inl l) = inl l
        fewer i (inr l) = inr (omega arith)

    pub putting_all : {n : ℕ} → k ≡ n → at + n ≤ length list₀ → (g : ℕ → ℕ) → ((j r : ℕ) → j < n → P j r → r ≡ g j) → list ≡ sets list₀ at (map g (below n))
    putting_all {n} e room g same =
        ext_get_or 0 list (sets list₀ at (map g (below n))) (W.long ∙ sym (length-sets list₀ at (map g (below n)))) (λ i h. at_place i (dec_lt i at) (dec_lt i (at + n)))
      where
        n_long : length (map g (below n)) ≡ n
        n_long = length_values g n

        other : (i : ℕ) → (i < at) ⊎ (at + n ≤ i) → get_or list i 0 ≡ get_or (sets list₀ at (map g (below n))) i 0
        other i o =
            W.rest i (rw e o)
            ∙ sym (sets_other 0 (map g (below n)) list₀ at i (rw n_long o))

        value : (j : ℕ) → j < n → get_or list (at + j) 0 ≡ get_or (sets list₀ at (map g (below n))) (at + j) 0
        value j l =
            same j (get_or list (at + j) 0) l (W.made j (rw e l)) ∙ sym (get_d_values g n j 0 l)
            ∙ sym (sets_at 0 (map g (below n)) list₀ at j (rw n_long l) (rw n_long room))

        at_place : (i : ℕ) → Dec (i < at) → Dec (i < at + n) → get_or list i 0 ≡ get_or (sets list₀ at (map g (below n))) i 0
        at_place i (yes l) d = other i (inl l)
        at_place i (no l) (no m) = other i (inr (omega arith))
        at_place i (no l) (yes m) =
            let here : at + (i - at) ≡ i = omega arith in
            subst (λ (q : ℕ). get_or list q 0 ≡ get_or (sets list₀ at (map g (below n))) q 0) here (value (i - at) (omega arith))
