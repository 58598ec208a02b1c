-- Runs of stores in a list: one more, and what stands in it afterwards: inside the run what was stored, elsewhere what stood there.
use mathlib.Core.Path.{◌≡◌, refl, ap, ◌∙◌}
use mathlib.Core.Logic.{◌⊎◌, inl, inr}
use mathlib.Core.List.{List, [], ◌∷◌, ◌++◌}
use Prim.Native.Nat.{ℕ, zero, suc, ◌+◌, ◌≤◌, ◌<◌}
use native.Mathlib.Nat.{not-suc-le-zero, add-zero}
use native.Mathlib.Omega.{arith}
use lib.ListN.{length, get_or, set, length-set}
use lib.Seq.{sets, get_or-set_same, get_or-set_other}

-- one store more behind a run
pub sets_more : (xs l : List ℕ) (i v : ℕ) → set (sets l i xs) (i + length xs) v ≡ sets l i (xs ++ (v ∷ []))
sets_more [] l i v = ap (λ (k : ℕ). set l k v) (add-zero i)
sets_more (x ∷ xs) l i v =
    let e : i + suc (length xs) ≡ suc i + length xs = omega arith in
    ap (λ (k : ℕ). set (sets (set l i x) (suc i) xs) k v) e ∙ sets_more xs (set l i x) (suc i) v

module _ {A : Type 0} (d : A) where
  pub sets_other : (vs l : List A) (at i : ℕ) → (i < at) ⊎ (at + length vs ≤ i) → get_or (sets l at vs) i d ≡ get_or l i d
  sets_other [] l at i o = refl
  sets_other (v ∷ vs) l at i o = sets_other vs (set l at v) (suc at) i (further o) ∙ get_or-set_other l at i v d (apart o)
    where
      further : (i < at) ⊎ (at + suc (length vs) ≤ i) → (i < suc at) ⊎ (suc at + length vs ≤ i)
      further (inl h) = inl (omega arith)
      further (inr h) = inr (omega arith)

      apart : (i < at) ⊎ (at + suc (length vs) ≤ i) → i ≡ at → ⊥
      apart (inl h) e = omega arith
      apart (inr h) e = omega arith

  pub sets_at : (vs l : List A) (at r : ℕ) → r < length vs → at + length vs ≤ length l → get_or (sets l at vs) (at + r) d ≡ get_or vs r d
  sets_at [] l at r h f = absurd (not-suc-le-zero h)
  sets_at (v ∷ vs) l at zero h f =
      let e : at + 0 ≡ at = omega arith in
      rw e (sets_other vs (set l at v) (suc at) at (inl (omega arith)) ∙ get_or-set_same l at v d (omega arith))
  sets_at (v ∷ vs) l at (suc r) h f =
      let e : at + suc r ≡ suc at + r = omega arith in
      rw e (sets_at vs (set l at v) (suc at) r (omega arith) (let s = length-set l at v in omega arith))
