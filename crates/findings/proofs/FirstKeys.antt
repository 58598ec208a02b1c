-- The keys of tables, free rules and folds, stored one after the other, are the keys of the first run from the front.
use mathlib.Core.Path.{◌≡◌, sym, ap₂, ◌∙◌}
use mathlib.Core.List.{List, [], ◌++◌, map}
use Prim.Native.Nat.{ℕ, ◌+◌, ◌≤◌}
use native.Mathlib.Omega.{arith}
use lib.IntN.{ℤ}
use lib.ListN.{length, length-append, length-map}
use lib.Seq.{sets}
use Rattle.lists.specs.Lists.{below, written}
use Rattle.lists.proofs.Keep.{length_values}
use Rattle.lists.proofs.Written.{written_run}
use Rattle.rects.specs.Rects.{count}
use Rattle.layout.specs.declared.sides.Sides.{Sides}
use Rattle.params.specs.declared.settings.RulingsParams.{RulingsParams}
use Rattle.findings.specs.Steps.{table_key, free_key, free_keys, fold_key, KeysStored, FirstKeyed}
use Rattle.findings.specs.Made.{free_count_of}

pub free_keys_long : (sides : Sides) (shear shear_x : List ℤ) (p : RulingsParams) (rects places : List ℕ) → length (free_keys sides shear shear_x p rects places) ≡ free_count_of p places
free_keys_long sides shear shear_x p rects places = length_values (λ k. free_key sides shear shear_x rects places) (free_count_of p places)

pub first_keyed : (sides : Sides) (shear shear_x : List ℤ) (p : RulingsParams) (bounds rects places folds : List ℕ) {keys ks ks' ks'' : List ℕ} {r : ℕ}
    → count bounds + free_count_of p places + length folds ≤ length keys → ks ≡ sets keys 0 (map (table_key sides shear shear_x bounds) (below (count bounds)))
    → KeysStored (free_keys sides shear shear_x p rects places) (count bounds) ks ks' r → ks'' ≡ sets ks' (count bounds + r) (map (fold_key sides shear shear_x rects) folds)
    → FirstKeyed sides shear shear_x p bounds rects places folds keys ks'' r
first_keyed sides shear shear_x p bounds rects places folds {keys} {ks} {ks'} {ks''} {r} room a b c =
    record {
      rules = b.count ∙ free_long;
      list = c ∙ ap₂ (λ (l : List ℕ) (i : ℕ). sets l i D) two both_long ∙ written_run D (T ++ F) keys (let e = length-append T F in omega (arith, table_long, free_long, fold_long));
    }
  where
    T : List ℕ
    T = map (table_key sides shear shear_x bounds) (below (count bounds))

    F : List ℕ
    F = free_keys sides shear shear_x p rects places

    D : List ℕ
    D = map (fold_key sides shear shear_x rects) folds

    table_long : length T ≡ count bounds
    table_long = length_values (table_key sides shear shear_x bounds) (count bounds)

    free_long : length F ≡ free_count_of p places
    free_long = free_keys_long sides shear shear_x p rects places

    fold_long : length D ≡ length folds
    fold_long = length-map folds (fold_key sides shear shear_x rects)

    one : ks ≡ written T keys
    one = a ∙ written_run T [] keys (omega (arith, table_long))

    two : ks' ≡ written (T ++ F) keys
    two = b.list ∙ ap₂ (λ (l : List ℕ) (i : ℕ). sets l i F) one (sym table_long) ∙ written_run F T keys (omega (arith, table_long, free_long))

    both_long : count bounds + r ≡ length (T ++ F)
    both_long = let e = length-append T F in let s : r ≡ length F = b.count in omega (arith, table_long)
