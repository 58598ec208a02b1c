-- There is at most one finding for each printed ruling: tables and refused sets are different sets, and each has a ruling of its own.
use Rattle.std.specs.Prelude.{◌≡◌, ℕ, ◌+◌, ◌<◌, ◌≤◌, Bool, true, false, not, List, [], ◌∷◌, map, length}
use mathlib.Core.Path.{refl, sym, ap, ◌∙◌}
use native.Mathlib.Nat.{not-suc-le-zero}
use native.Mathlib.Omega.{arith}
use Rattle.lists.specs.Lists.{one, below, concat}
use Rattle.lists.proofs.Keep.{length_below}
use Rattle.lists.proofs.Sizes.{keep_size_split, keep_all}
use Rattle.sets.proofs.Sizes.{sets_few}
use Rattle.meeting.specs.Segments.{ruling_at}
use Rattle.meeting.specs.Meeting.{touch}
use Rattle.shapes.specs.declared.limits.Limits.{Limits}
use Rattle.shapes.specs.Shapes.{is_table}
use Rattle.table_lists.specs.Answers.{table_numbers, free_numbers}
use Rattle.tables.specs.Call.{all_sets, set_at, tables, free}

module _ (rects directions chosen : List ℕ) (lim : Limits) where
  -- each set is a table or free
  all_numbers : length (tables rects directions chosen lim) + length (free_numbers lim (ruling_at rects directions chosen) (set_at rects directions chosen lim) (length (all_sets rects directions chosen lim)))
      ≡ length (all_sets rects directions chosen lim)
  unfolding table_numbers free_numbers
  all_numbers =
      let n = length (all_sets rects directions chosen lim) in
      let q : ℕ → Bool = λ k. is_table lim (ruling_at rects directions chosen) (set_at rects directions chosen lim k) in
      sym (keep_size_split (λ k. true) q (λ k. not (q k)) (λ k. either (q k)) (below n)) ∙ ap length (keep_all (λ k. true) n (λ m l. refl)) ∙ length_below n
    where
      either : (b : Bool) → one true ≡ one b + one (not b)
      either true = refl
      either false = refl

  few : length (all_sets rects directions chosen lim) ≤ length chosen
  few = sets_few (length chosen) (touch lim.join (ruling_at rects directions chosen))

  pub tables_few : length (tables rects directions chosen lim) ≤ length chosen
  tables_few = let e = all_numbers in let f = few in omega arith

  -- where a ruling is free, there is one more set
  pub tables_and_free_few : 0 < length (free rects directions chosen lim) → length (tables rects directions chosen lim) + 1 ≤ length chosen
  tables_and_free_few h =
      let s = some (free_numbers lim (ruling_at rects directions chosen) (set_at rects directions chosen lim) (length (all_sets rects directions chosen lim))) h in
      let e = all_numbers in
      let f = few in
      omega arith
    where
      some : (ks : List ℕ) → 0 < length (concat (map (set_at rects directions chosen lim) ks)) → 0 < length ks
      some [] l = absurd (not-suc-le-zero l)
      some (k ∷ ks) l = omega arith
