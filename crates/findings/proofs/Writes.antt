-- All findings written: the kinds' ranks stand one after the other, each kind's room is what the ones before it left, and the lists hold all findings
-- in order.
use mathlib.Core.Path.{◌≡◌, refl, sym, ap, ap₂, subst, ◌∙◌}
use mathlib.Core.Bool.{Bool, true, false, ◌&&◌}
use mathlib.Core.List.{List, [], ◌∷◌, ◌++◌, map}
use Prim.Native.Nat.{ℕ, zero, suc, ◌+◌, ◌≤◌}
use native.Mathlib.Omega.{arith}
use lib.ListN.{length, get_or, take, drop, length-append, length-map}
use Rattle.lists.specs.Lists.{below, every_below}
use Rattle.lists.proofs.Keep.{map_append, map_map, at_entries, length_values}
use Rattle.rects.specs.Rects.{count}
use Rattle.ranks.specs.Ranks.{Ranked}
use Rattle.params.specs.declared.settings.RulingsParams.{RulingsParams}
use Rattle.evidence.specs.declared.finding.Row.{Row}
use Rattle.evidence.specs.declared.finding.Finding.{Finding}
use Rattle.evidence.specs.Finding.{row_of, finite_finding}
use Rattle.evidence.specs.Kinds.{table_finding, free_finding, grid_finding, fold_finding}
use Rattle.finding_lists.specs.Columns.{Columns}
use Rattle.finding_lists.specs.Steps.{Stored, Wrote, RanksGiven, Roomy}
use Rattle.finding_lists.proofs.Storing.{still_roomy}
use Rattle.findings.specs.Keys.{key_of}
use Rattle.findings.specs.Steps.{table_key, fold_key, free_keys, first_keys, grid_keys_of, WriteRoom, AllFound}
use Rattle.findings.specs.Made.{Scan, RulingLists, TableLists, BoxLists, greatest_of, table_at, free_of, fold_at, grid_of, free_count_of, table_findings, free_findings, fold_findings, grid_findings, first_findings, every_finite}
use Rattle.findings.proofs.All.{all_in_order, stored_on, first_ranks, second_ranks}

-- ---- ranks and room of each kind

wrote_roomy : (f : ℕ → Finding) {n m at : ℕ} {ranks : List ℕ} {l l' : Columns} {all : Bool} → Roomy m l → Wrote f n ranks at l l' all → Roomy m l'
wrote_roomy f {n} {at} {ranks} R W = still_roomy (map (λ k. row_of (f k)) (below n)) (take n (drop at ranks)) R W.stored

module _ {p : RulingsParams} {folds numbers ka kb ra rb : List ℕ} {tables rules : ℕ} {l : Columns} (W : WriteRoom p folds numbers ka kb ra rb tables rules l) where
  pub tables_given : RanksGiven ra 0 tables l
  tables_given = first_ranks W.ranked W.room 0 tables (omega (arith, W.first_long)) W.ranks_long

  module _ (f : ℕ → Finding) {l₁ : Columns} {b : Bool} (A : Wrote f tables ra 0 l l₁ b) where
    pub rules_given : {m : ℕ} → rules ≡ m → RanksGiven ra tables m l₁
    rules_given {m} e = first_ranks W.ranked (wrote_roomy f W.room A) tables m (omega (arith, W.first_long)) W.ranks_long

    module _ (g : ℕ → Finding) {m : ℕ} {l₂ : Columns} {b₂ : Bool} (B : Wrote g m ra tables l₁ l₂ b₂) where
      pub folds_given : RanksGiven ra (tables + rules) (length folds) l₂
      folds_given = first_ranks W.ranked (wrote_roomy g (wrote_roomy f W.room A) B) (tables + rules) (length folds) (omega (arith, W.first_long)) W.ranks_long

      pub grids_given : (h : ℕ → Finding) {l₃ : Columns} {b₃ : Bool} → Wrote h (length folds) ra (tables + rules) l₂ l₃ b₃ → RanksGiven rb 0 (length numbers) l₃
      grids_given h {l₃} D =
          subst (λ (n : ℕ). RanksGiven rb 0 n l₃) W.second_long (second_ranks W.ranked (wrote_roomy h (wrote_roomy g (wrote_roomy f W.room A) B) D) W.grid_ranks_long)

-- ---- the keys of the findings

module _ (s : Scan) (t : TableLists) (r : RulingLists) (b : BoxLists) (dpi : ℕ) where
  table_keys : map key_of (table_findings s t) ≡ map (table_key s.sides s.shear s.shear_x t.bounds) (below (count t.bounds))
  unfolding table_at table_finding
  table_keys = map_map key_of (table_at s t) (below (count t.bounds))

  free_keys_lem : (places : List ℕ) → map key_of (free_findings s r places) ≡ free_keys s.sides s.shear s.shear_x s.settings r.rects places
  unfolding free_of free_finding greatest_of
  free_keys_lem places = map_map key_of (λ k. free_of s r places) (below (free_count_of s.settings places))

  fold_keys : (places : List ℕ) → map key_of (fold_findings s dpi r places) ≡ map (fold_key s.sides s.shear s.shear_x r.rects) places
  unfolding fold_at fold_finding
  fold_keys places = map_map key_of (fold_at s dpi r) places

  pub grid_keys_are : map key_of (grid_findings s b) ≡ grid_keys_of s.sides s.shear s.shear_x b.rects b.set b.grids
  unfolding grid_of grid_finding
  grid_keys_are = map_map key_of (λ n. grid_of s b.rects b.marks b.coverages (b.set n)) b.grids

  pub first_keys_are : (places fs : List ℕ) → map key_of (first_findings s dpi t r places fs) ≡ first_keys s.sides s.shear s.shear_x s.settings t.bounds r.rects places fs
  first_keys_are places fs =
      map_append key_of (table_findings s t ++ free_findings s r places) (fold_findings s dpi r fs)
      ∙ ap₂ (λ (x y : List ℕ). x ++ y) (map_append key_of (table_findings s t) (free_findings s r places) ∙ ap₂ (λ (x y : List ℕ). x ++ y) table_keys (free_keys_lem places)) (fold_keys fs)

-- ---- every one finite

finite_append : (xs ys : List Finding) → every_finite (xs ++ ys) ≡ every_finite xs && every_finite ys
finite_append [] ys = refl
finite_append (x ∷ xs) ys = ap (λ (b : Bool). finite_finding x && b) (finite_append xs ys) ∙ assoc (finite_finding x) (every_finite xs) (every_finite ys)
  where
    assoc : (a b c : Bool) → a && (b && c) ≡ (a && b) && c
    assoc true b c = refl
    assoc false b c = refl

finite_below : (f : ℕ → Finding) (n : ℕ) → every_below n (λ k. finite_finding (f k)) ≡ every_finite (map f (below n))
unfolding every_below
finite_below f zero = refl
finite_below f (suc n) =
    ap (λ (b : Bool). b && finite_finding (f n)) (finite_below f n) ∙ ap (λ (b : Bool). every_finite (map f (below n)) && b) (sym (last (finite_finding (f n))))
    ∙ sym (finite_append (map f (below n)) (f n ∷ [])) ∙ ap every_finite (sym (map_append f (below n) (n ∷ [])))
  where
    last : (b : Bool) → b && true ≡ b
    last true = refl
    last false = refl

-- ---- all of it

module _ (s : Scan) (t : TableLists) (r : RulingLists) (b : BoxLists) (dpi : ℕ) (places fs : List ℕ) {ra rb : List ℕ} {rules : ℕ} {l : Columns} where
  pub all_found : {l₁ l₂ l₃ l₄ : Columns} {b₁ b₂ b₃ b₄ : Bool} → rules ≡ free_count_of s.settings places
      → WriteRoom s.settings fs b.grids (first_keys s.sides s.shear s.shear_x s.settings t.bounds r.rects places fs)
      (grid_keys_of s.sides s.shear s.shear_x b.rects b.set b.grids) ra rb (count t.bounds) rules l
      → Wrote (table_at s t) (count t.bounds) ra 0 l l₁ b₁ → Wrote (λ k. free_of s r places) (free_count_of s.settings places) ra (count t.bounds) l₁ l₂ b₂
      → Wrote (λ k. fold_at s dpi r (get_or fs k 0)) (length fs) ra (count t.bounds + rules) l₂ l₃ b₃
      → Wrote (λ k. grid_of s b.rects b.marks b.coverages (b.set (get_or b.grids k 0))) (length b.grids) rb 0 l₃ l₄ b₄
      → AllFound (first_findings s dpi t r places fs ++ grid_findings s b) l l₄ (b₁ && b₂ && b₃ && b₄)
  all_found {l₁} {l₂} {l₃} {l₄} {b₁} {b₂} {b₃} {b₄} e W A B D G =
      record {
        lists = all_in_order first second ranked (rw first_long W.ranks_long) (rw second_long W.grid_ranks_long) (subst (λ (n : ℕ). Roomy n l) (ap₂ ◌+◌ (sym first_long) (sym second_long)) W.room) stored_first stored_second;
        all_finite = ap₂ ◌&&◌ (ap₂ ◌&&◌ (ap₂ ◌&&◌ (A.finite ∙ finite_below (table_at s t) n) (B.finite ∙ finite_below (λ k. free_of s r places) m) ∙ sym (finite_append T F))
            (D.finite ∙ finite_below (λ k. fold_at s dpi r (get_or fs k 0)) (length fs) ∙ ap every_finite (at_entries (fold_at s dpi r) fs)) ∙ sym (finite_append (T ++ F) (fold_findings s dpi r fs)))
            (G.finite ∙ finite_below (λ k. grid (get_or b.grids k 0)) (length b.grids) ∙ ap every_finite (at_entries grid b.grids)) ∙ sym (finite_append first second);
      }
    where
      n : ℕ
      n = count t.bounds

      m : ℕ
      m = free_count_of s.settings places

      T : List Finding
      T = table_findings s t

      F : List Finding
      F = free_findings s r places

      first : List Finding
      first = first_findings s dpi t r places fs

      second : List Finding
      second = grid_findings s b

      grid : ℕ → Finding
      grid i = grid_of s b.rects b.marks b.coverages (b.set i)

      first_long : length first ≡ length (first_keys s.sides s.shear s.shear_x s.settings t.bounds r.rects places fs)
      first_long = sym (length-map first key_of) ∙ ap length (first_keys_are s t r b dpi places fs)

      second_long : length second ≡ length (grid_keys_of s.sides s.shear s.shear_x b.rects b.set b.grids)
      second_long = sym (length-map second key_of) ∙ ap length (grid_keys_are s t r b dpi)

      ranked : Ranked (map key_of first) (map key_of second) ra rb
      ranked = subst (λ (xs : List ℕ). Ranked xs (map key_of second) ra rb) (sym (first_keys_are s t r b dpi places fs)) (subst (λ (ys : List ℕ). Ranked (first_keys s.sides s.shear s.shear_x s.settings t.bounds r.rects places fs) ys ra rb) (sym (grid_keys_are s t r b dpi)) W.ranked)

      -- rows of each kind
      rows : (f : ℕ → Finding) (xs : List ℕ) → map (λ k. row_of (f k)) xs ≡ map row_of (map f xs)
      rows f xs = sym (map_map row_of f xs)

      number : length first ≡ n + m + length fs
      number = first_long ∙ W.first_long ∙ ap (λ (i : ℕ). n + i + length fs) e

      fits : n + m + length fs ≤ length ra
      fits = let h = W.ranks_long in omega (arith, first_long, number)

      table_rows : Stored (map row_of T) (take n ra) l l₁
      table_rows = subst (λ (x : List Row). Stored x (take n ra) l l₁) (rows (table_at s t) (below n)) A.stored

      free_rows : Stored (map row_of F) (take m (drop n ra)) l₁ l₂
      free_rows = subst (λ (x : List Row). Stored x (take m (drop n ra)) l₁ l₂) (rows (λ k. free_of s r places) (below m)) B.stored

      fold_rows : Stored (map row_of (fold_findings s dpi r fs)) (take (length fs) (drop (n + m) ra)) l₂ l₃
      fold_rows =
          subst (λ (i : ℕ). Stored (map row_of (fold_findings s dpi r fs)) (take (length fs) (drop (n + i) ra)) l₂ l₃) e
          (subst (λ (x : List Row). Stored x (take (length fs) (drop (n + rules) ra)) l₂ l₃) (rows (λ k. fold_at s dpi r (get_or fs k 0)) (below (length fs)) ∙ ap (map row_of) (at_entries (fold_at s dpi r) fs)) D.stored)

      T-long : length (map row_of T) ≡ n
      T-long = length-map T row_of ∙ length_values (table_at s t) n

      F-long : length (map row_of F) ≡ m
      F-long = length-map F row_of ∙ length_values (λ k. free_of s r places) m

      both : Stored (map row_of T ++ map row_of F) (take (n + m) ra) l l₂
      both = stored_on (map row_of T) (map row_of F) n m ra T-long (omega (arith, fits)) table_rows free_rows

      stored_first : Stored (map row_of first) (take (length first) ra) l l₃
      stored_first =
          subst (λ (i : ℕ). Stored (map row_of first) (take i ra) l l₃) (sym number)
          (subst (λ (x : List Row). Stored x (take (n + m + length fs) ra) l l₃)
          (ap (λ (x : List Row). x ++ map row_of (fold_findings s dpi r fs)) (sym (map_append row_of T F)) ∙ sym (map_append row_of (T ++ F) (fold_findings s dpi r fs)))
          (stored_on (map row_of T ++ map row_of F) (map row_of (fold_findings s dpi r fs)) (n + m) (length fs) ra (let x = length-append (map row_of T) (map row_of F) in omega (arith, T-long, F-long)) (omega (arith, fits)) both fold_rows))

      stored_second : Stored (map row_of second) (take (length second) rb) l₃ l₄
      stored_second =
          subst (λ (i : ℕ). Stored (map row_of second) (take i rb) l₃ l₄) (sym (length-map b.grids grid))
          (subst (λ (x : List Row). Stored x (take (length b.grids) rb) l₃ l₄) (rows (λ k. grid (get_or b.grids k 0)) (below (length b.grids)) ∙ ap (map row_of) (at_entries grid b.grids)) G.stored)
