-- `pairs::indexes_below` meets its contract: the library's test of each element is the definition's.
use Rattle.std.proofs.Common.{◌≡◌, rules, tests, Bool, List, ℕ, zero, suc, ◌≤◌, ◌&&◌, length, get_or, take, ltb, arith, refl, sym, ap, ◌∙◌}
use native.Mathlib.Numerals.{add-one}
use native.Mathlib.Nat.{le_refl}
use Rattle.std.specs.List.{list_all}
use Rattle.std.proofs.lemmas.Iterator.{YieldsList-from_slice}
use Rattle.std.proofs.lemmas.Iterator.Search.{all_from_yields_List}
use Rattle.std.proofs.lemmas.List.{take_all}
use Rattle.std.proofs.lemmas.List.Folds.{list_all_more}
use Rattle.lists.specs.Lists.{every_below}
use Rattle.pairs.proofs.indexes_below.Goals as goal

module _ (test : ℕ → Bool) (xs : List ℕ) where
  each : (i : ℕ) → i ≤ length xs → list_all test (take i xs) ≡ every_below i (λ k. test (get_or xs k 0))
  unfolding every_below
  each zero h = refl
  each (suc i) h =
      ap (λ (k : ℕ). list_all test (take k xs)) (sym (add-one i)) ∙ list_all_more test xs i 0 h ∙ ap (λ (b : Bool). b && test (get_or xs i 0)) (each i (omega arith))

  every : list_all test xs ≡ every_below (length xs) (λ k. test (get_or xs k 0))
  every = ap (list_all test) (sym (take_all (length xs) xs (le_refl (length xs)))) ∙ each (length xs) (le_refl (length xs))

pub returns : goal.returns
returns c =
    let below = λ (i : ℕ). ltb i c.args.n in
    let pairs = c.args.pairs.now in
    all_from_yields_List below _ _ _ c.all.ensures.ran (YieldsList-from_slice pairs cc) (λ x b q k. search (rules, tests)) ∙ every below pairs
