-- Demand 3's last sentence: findings of one kind and what they are made from are paired one to one, place by place.
use Rattle.std.specs.Prelude.{◌≡◌, List, ℕ, ◌<◌, length, get_or}
use Rattle.rects.specs.Rects.{count}
use Rattle.evidence.specs.declared.finding.Finding.{Finding}
use Rattle.evidence.specs.Finding.{kind_number}
use Rattle.findings.specs.Made.{Scan, RulingLists, TableLists, BoxLists, table_at, free_places, free_count_of, free_of, folds, fold_at, grid_of, made}
use Rattle.findings.specs.Keys.{in_order, Stands, Ordered}

-- Item k of n makes the finding f k, which stands at place `place k`; two items have two places, and every finding of this kind has its item.
pub record Paired (kind n : ℕ) (f : ℕ → Finding) (fs : List Finding) (place : ℕ → ℕ) : Type 0 where
  pub made : (k : ℕ) → k < n → Stands fs (place k) (f k)
  pub of_kind : (k : ℕ) → k < n → kind_number (f k).kind ≡ kind
  pub apart : (j k : ℕ) → j < n → k < n → place j ≡ place k → j ≡ k
  pub no_other : (i : ℕ) (g : Finding) → Stands fs i g → kind_number g.kind ≡ kind → (k : ℕ) × (k < n) × (place k ≡ i)

-- The findings of a page: each table, each fold and each grid has exactly one, the free rules have one if there are enough, no other finding stands,
-- and they stand in document 01's order.
pub record FindingsPaired (s : Scan) (dpi : ℕ) (r : RulingLists) (printed faint : List ℕ) (t : TableLists) (free : List ℕ) (b : BoxLists) : Type 0 where
  pub tables : (place : ℕ → ℕ) × Paired 16 (count t.bounds) (table_at s t) (in_order (made s dpi r printed faint t free b)) place
  pub free_rules : (place : ℕ → ℕ)
      × Paired 17 (free_count_of s.settings (free_places printed free)) (λ k. free_of s r (free_places printed free))
      (in_order (made s dpi r printed faint t free b)) place
  pub grids : (place : ℕ → ℕ)
      × Paired 18 (length b.grids) (λ k. grid_of s b.rects b.marks b.coverages (b.set (get_or b.grids k 0)))
      (in_order (made s dpi r printed faint t free b)) place
  pub fold_lines : (place : ℕ → ℕ)
      × Paired 19 (length (folds s.settings dpi r.rects r.directions faint))
      (λ k. fold_at s dpi r (get_or (folds s.settings dpi r.rects r.directions faint) k 0))
      (in_order (made s dpi r printed faint t free b)) place
  pub order : (from : ℕ → ℕ) × Ordered (made s dpi r printed faint t free b) (in_order (made s dpi r printed faint t free b)) from
