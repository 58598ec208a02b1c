-- Laws of a lent list that is written from the front: nothing yet, one more entry, and what stands where.
use mathlib.Core.Path.{◌≡◌, refl, sym, ap, ap₂, ◌∙◌}
use mathlib.Core.List.{List, [], ◌∷◌, ◌++◌, append-nil}
use Prim.Native.Nat.{ℕ, suc, ◌+◌, ◌-◌, ◌≤◌, ◌<◌}
use native.Mathlib.Nat.{not-suc-le-zero, le_of_suc-le-suc}
use native.Mathlib.Omega.{arith}
use lib.ListN.{length, get_or, drop, set, length-append, length-drop, get_or-append}
use lib.Seq.{get_or-drop, get_or-append-add, append_snoc, sets}
use Rattle.lists.specs.Lists.{written}

module _ {A : Type 0} where
  pub written_length : (xs lent : List A) → length xs ≤ length lent → length (written xs lent) ≡ length lent
  written_length xs lent h = simp (length-append, length-drop) (omega arith)

  -- the entry that is written next goes behind those that are there
  pub written_next : (xs lent : List A) (v : A) → length xs < length lent → set (written xs lent) (length xs) v ≡ written (xs ++ (v ∷ [])) lent
  written_next [] [] v h = absurd (not-suc-le-zero h)
  written_next [] (y ∷ lent) v h = refl
  written_next (x ∷ xs) [] v h = absurd (not-suc-le-zero h)
  written_next (x ∷ xs) (y ∷ lent) v h = ap {B = List A} (λ t. x ∷ t) (written_next xs lent v (le_of_suc-le-suc h))

  -- the same as a loop meets it: the list in hand, the place, and what is then written
  pub written_more : (xs lent : List A) (v : A) {ys l : List A} {i : ℕ} → l ≡ written xs lent → length xs ≡ i → i < length lent → ys ≡ xs ++ (v ∷ [])
      → set l i v ≡ written ys lent
  written_more xs lent v {ys} {l} {i} e n h f =
      ap₂ (λ (t : List A) (k : ℕ). set t k v) e (sym n) ∙ written_next xs lent v (rw n h) ∙ ap (λ (t : List A). written t lent) (sym f)

  pub written_at : (xs lent : List A) (i : ℕ) (d : A) → i < length xs → get_or (written xs lent) i d ≡ get_or xs i d
  written_at xs lent i d h = get_or-append xs (drop (length xs) lent) d i h

  pub written_past : (xs lent : List A) (i : ℕ) (d : A) → length xs ≤ i → get_or (written xs lent) i d ≡ get_or lent i d
  written_past xs lent i d h =
      let e : i ≡ length xs + (i - length xs) = omega arith in
      ap (λ (k : ℕ). get_or (written xs lent) k d) e ∙ get_or-append-add xs (drop (length xs) lent) (i - length xs) d
      ∙ get_or-drop (length xs) lent (i - length xs) d ∙ ap (λ (k : ℕ). get_or lent k d) (sym e)

  -- a run of stores behind what is there
  pub written_run : (t xs lent : List A) → length xs + length t ≤ length lent → sets (written xs lent) (length xs) t ≡ written (xs ++ t) lent
  written_run [] xs lent h = ap (λ (w : List A). written w lent) (sym (append-nil xs))
  written_run (v ∷ t) xs lent h =
      let e : length (xs ++ (v ∷ [])) ≡ suc (length xs) = length-append xs (v ∷ []) ∙ omega arith in
      ap (λ (l : List A). sets l (suc (length xs)) t) (written_next xs lent v (omega arith)) ∙ ap (λ (k : ℕ). sets (written (xs ++ (v ∷ [])) lent) k t) (sym e)
      ∙ written_run t (xs ++ (v ∷ [])) lent (omega arith) ∙ ap (λ (w : List A). written w lent) (append_snoc xs v t)
