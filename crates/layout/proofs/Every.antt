-- What a test of two parts, and of every entry of a list, says.
use mathlib.Core.Path.{◌≡◌, refl, sym, ap, ◌∙◌}
use mathlib.Core.Bool.{Bool, true, ◌&&◌}
use mathlib.Core.List.{List}
use Prim.Native.Nat.{ℕ, zero, suc, ◌≤◌}
use native.Mathlib.Nat.{le_refl}
use native.Mathlib.Numerals.{add-one}
use native.Mathlib.Omega.{arith}
use lib.ListN.{length, get_or, take}
use Rattle.std.specs.List.{list_all}
use Rattle.std.proofs.lemmas.List.{take_all}
use Rattle.std.proofs.lemmas.List.Folds.{list_all_more}
use Rattle.lists.specs.Lists.{every_below}
use Rattle.lists.proofs.Every.{and_first, and_second}

pub and_parts : (a b : Bool) → a && b ≡ true → (a ≡ true) × (b ≡ true)
and_parts a b h = (and_first a b h, and_second a b h)

-- the library's test of each entry, d standing for what lies past the end
module _ {A : Type 0} (test : A → Bool) (d : A) (xs : List A) where
  each : (i : ℕ) → i ≤ length xs → list_all test (take i xs) ≡ every_below i (λ k. test (get_or xs k d))
  unfolding every_below
  each zero h = refl
  each (suc i) h =
      ap (λ (k : ℕ). list_all test (take k xs)) (sym (add-one i)) ∙ list_all_more test xs i d h ∙ ap (λ (b : Bool). b && test (get_or xs i d)) (each i (omega arith))

  pub all_is_every : list_all test xs ≡ every_below (length xs) (λ k. test (get_or xs k d))
  all_is_every = ap (list_all test) (sym (take_all (length xs) xs (le_refl (length xs)))) ∙ each (length xs) (le_refl (length xs))
