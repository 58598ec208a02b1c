-- The front parts of the two lists of keys are the keys of the two runs, so what is ranked are all findings.
use mathlib.Core.Path.{◌≡◌, sym, ap₂, subst, ◌∙◌}
use mathlib.Core.List.{List, [], ◌++◌, map}
use Prim.Native.Nat.{ℕ, ◌+◌, ◌≤◌}
use native.Mathlib.Omega.{arith}
use lib.IntN.{ℤ}
use lib.ListN.{length, take, drop, length-append, length-map, length-take}
use lib.Seq.{sets, take-append_seam}
use Rattle.lists.specs.Lists.{below, written}
use Rattle.lists.proofs.Keep.{length_values}
use Rattle.lists.proofs.Written.{written_run}
use Rattle.rects.specs.Rects.{count}
use Rattle.ranks.specs.Ranks.{Ranked, Room}
use Rattle.layout.specs.declared.sides.Sides.{Sides}
use Rattle.params.specs.declared.settings.RulingsParams.{RulingsParams}
use Rattle.findings.specs.Steps.{table_key, fold_key, free_keys, first_keys, grid_key, grid_keys_of, FirstKeyed, RankRoom, AllRanked}
use Rattle.findings.specs.Made.{free_count_of}
use Rattle.findings.proofs.FirstKeys.{free_keys_long}

-- a part from the front is as long as it says
pub cut_long : {n m : ℕ} (l : List ℕ) → length l ≡ m → n ≤ m → n ≡ length (take n l)
cut_long {n} l e h = let t = length-take n l in omega arith

-- the part that was written from the front
pub front_part : (xs l : List ℕ) {n : ℕ} {l' : List ℕ} → l' ≡ written xs l → n ≡ length xs → take n l' ≡ xs
front_part xs l e f = ap₂ take f e ∙ take-append_seam xs (drop (length xs) l)

module _ (sides : Sides) (shear shear_x : List ℤ) (p : RulingsParams) (bounds rects places folds boxes : List ℕ) (set : ℕ → List ℕ) (numbers : List ℕ) where
  pub first_long : length (first_keys sides shear shear_x p bounds rects places folds) ≡ count bounds + free_count_of p places + length folds
  first_long =
      let T = map (table_key sides shear shear_x bounds) (below (count bounds)) in
      let F = free_keys sides shear shear_x p rects places in
      let D = map (fold_key sides shear shear_x rects) folds in
      length-append (T ++ F) D
      ∙ ap₂ ◌+◌ (length-append T F ∙ ap₂ ◌+◌ (length_values (table_key sides shear shear_x bounds) (count bounds)) (free_keys_long sides shear shear_x p rects places)) (length-map folds (fold_key sides shear shear_x rects))

  pub second_long : length (grid_keys_of sides shear shear_x boxes set numbers) ≡ length numbers
  second_long = length-map numbers (λ n. grid_key sides shear shear_x boxes (set n))

  module _ {keys grid_keys order grid_order ranks grid_ranks : List ℕ} (R : RankRoom p bounds places folds numbers keys grid_keys order grid_order ranks grid_ranks) where
    module _ {ks : List ℕ} {r : ℕ} (K : FirstKeyed sides shear shear_x p bounds rects places folds keys ks r) where
      -- how many the first run has
      pub run_long : count bounds + r + length folds ≡ length (first_keys sides shear shear_x p bounds rects places folds)
      run_long = let e : r ≡ free_count_of p places = K.rules in let f = first_long in omega arith

      pub run_fits : count bounds + r + length folds ≤ length keys
      run_fits = let e : r ≡ free_count_of p places = K.rules in let h = R.keys_long in omega arith

      pub room : (gs : List ℕ) → length ks ≡ length keys → length gs ≡ length grid_keys
          → Room (take (count bounds + r + length folds) ks) (take (length numbers) gs) order grid_order ranks grid_ranks
      room gs e f =
          let a : count bounds + r + length folds ≡ length (take (count bounds + r + length folds) ks) = cut_long ks e run_fits in
          let b : length numbers ≡ length (take (length numbers) gs) = cut_long gs f R.grid_keys_long in
          let c : r ≡ free_count_of p places = K.rules in
          record {
            few = omega (arith, R.few);
            first_order = omega (arith, R.order_long);
            second_order = omega (arith, R.grid_order_long);
            first_ranks = omega (arith, R.ranks_long);
            second_ranks = omega (arith, R.grid_ranks_long);
          }

      pub all_ranked : {gs ra rb : List ℕ} → gs ≡ sets grid_keys 0 (grid_keys_of sides shear shear_x boxes set numbers)
          → Ranked (take (count bounds + r + length folds) ks) (take (length numbers) gs) ra rb → AllRanked sides shear shear_x p bounds rects places folds boxes set numbers ra rb r
      all_ranked {gs} {ra} {rb} g Q =
          let G = grid_keys_of sides shear shear_x boxes set numbers in
          let e = front_part (first_keys sides shear shear_x p bounds rects places folds) keys K.list run_long in
          let f = front_part G grid_keys (g ∙ written_run G [] grid_keys (omega (arith, second_long, R.grid_keys_long))) (sym second_long) in
          record { rules = K.rules; ranked = subst (λ (ys : List ℕ). Ranked (first_keys sides shear shear_x p bounds rects places folds) ys ra rb) f (subst (λ (xs : List ℕ). Ranked xs (take (length numbers) gs) ra rb) e Q) }
