-- Lists lent from a bundle, an array of lent lists, and given back. No call has such an array any more: lent lists are the fields of structs.
use mathlib.Core.Path.{◌≡◌, refl, sym, ap, ◌∙◌}
use mathlib.Core.List.{List, [], ◌∷◌}
use Prim.Native.Nat.{ℕ, zero, suc, ◌≤◌}
use native.Mathlib.Omega.{arith}
use denote.Ref.{MutBor}
use lib.ListN.{length, get_or, set, take}
use lib.Seq.{get_or-set_other, length-take-le}

-- list k of a bundle of lent lists; empty where it has no such list
abbrev pub list_at : {A : Type 0} → ℕ → List (MutBor (List A)) → List A
list_at k bundle = (get_or bundle k (record { ref_ptr = (0, 0); ghost_name = 0; now = [] })).now

-- only list k may have changed, and it is as long as it was
pub record Only {A : Type 0} (k : ℕ) (bundle bundle' : List (MutBor (List A))) : Type 0 where
  pub others : (j : ℕ) → (j ≡ k → ⊥) → list_at j bundle' ≡ list_at j bundle
  pub long : length (list_at k bundle') ≡ length (list_at k bundle)

-- every list is as it was
pub record Kept {A : Type 0} (bundle bundle' : List (MutBor (List A))) : Type 0 where
  pub each : (j : ℕ) → list_at j bundle' ≡ list_at j bundle

empty : {A : Type 0} (xs : List A) → length xs ≡ 0 → xs ≡ []
empty [] e = refl
empty (x ∷ xs) e = absurd (omega (arith, e))

module _ {A : Type 0} where
  -- what is given back as long as it was lent stands in the bundle
  pub sent : (b : List (MutBor (List A))) (k : ℕ) (v : MutBor (List A)) → length v.now ≡ length (list_at k b) → v.now ≡ list_at k (set b k v)
  sent [] k v e = empty v.now e
  sent (x ∷ b) zero v e = refl
  sent (x ∷ b) (suc k) v e = sent b k v e

  pub only : (b : List (MutBor (List A))) (k : ℕ) (v : MutBor (List A)) → length v.now ≡ length (list_at k b) → Only k b (set b k v)
  only b k v e =
      record { others = λ j h. ap (λ (x : MutBor (List A)). x.now) (get_or-set_other b k j v (record { ref_ptr = (0, 0); ghost_name = 0; now = [] }) h); long = ap length (sym (sent b k v e)) ∙ e }

  -- a list that was only read
  pub kept : (b : List (MutBor (List A))) (k : ℕ) (v : MutBor (List A)) → v.now ≡ list_at k b → Kept b (set b k v)
  kept b k v e = record { each = at b k e }
    where
      at : (b : List (MutBor (List A))) (k : ℕ) → v.now ≡ list_at k b → (j : ℕ) → list_at j (set b k v) ≡ list_at j b
      at [] k e j = refl
      at (x ∷ b) zero e zero = e
      at (x ∷ b) zero e (suc j) = refl
      at (x ∷ b) (suc k) e zero = refl
      at (x ∷ b) (suc k) e (suc j) = at b k e j

-- a part from the front is as long as it says
pub cut : {A : Type 0} (n : ℕ) (l : List A) → n ≤ length l → n ≡ length (take n l)
cut n l h = sym (length-take-le n l h)
