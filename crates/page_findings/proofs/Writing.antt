-- Storing the findings kind by kind, where the tables are counted as they are read.
use mathlib.Core.Path.{◌≡◌}
use mathlib.Core.Bool.{Bool, ◌&&◌}
use mathlib.Core.List.{List}
use Prim.Native.Nat.{ℕ, ◌+◌}
use lib.ListN.{length, get_or}
use Rattle.rects.specs.Rects.{count}
use Rattle.evidence.specs.declared.finding.Finding.{Finding}
use Rattle.finding_lists.specs.Columns.{Columns}
use Rattle.finding_lists.specs.Steps.{Wrote, RanksGiven}
use Rattle.findings.specs.Made.{table_at, free_of, free_count_of, fold_at, grid_of}
use Rattle.findings.proofs.Writes as Writes
use Rattle.grid_findings.specs.Boxes.{sets_of}
use Rattle.page_findings.specs.Sources.{Sources, boxes_of}
use Rattle.page_findings.specs.Steps.{ReadyToWrite, WroteAll}

module _ (s : Sources) {places folds : List ℕ} {rules : ℕ} {ranks grid_ranks : List ℕ} {l : Columns} (R : ReadyToWrite s places folds rules ranks grid_ranks l) {n : ℕ} (e : n ≡ count s.tabled.bounds) where
  abbrev pub table : ℕ → Finding
  table = table_at s.scan s.tabled

  abbrev pub loose : ℕ → Finding
  loose k = free_of s.scan s.ruled places

  abbrev pub fold : ℕ → Finding
  fold k = fold_at s.scan s.dpi s.ruled (get_or folds k 0)

  abbrev pub grid : ℕ → Finding
  grid k = grid_of s.scan s.boxed.rects s.boxed.marks s.boxed.coverages (sets_of s.boxed (get_or s.boxed.grids k 0))

  module _ {l₁ : Columns} {b₁ : Bool} (T : Wrote table (count s.tabled.bounds) ranks 0 l l₁ b₁) where
    pub rules_ranked : RanksGiven ranks n (free_count_of s.scan.settings places) l₁
    rules_ranked = rw e (Writes.rules_given R.room table T R.rules_given)

    module _ {l₂ : Columns} {b₂ : Bool} (L : Wrote loose (free_count_of s.scan.settings places) ranks n l₁ l₂ b₂) where
      L' : Wrote loose (free_count_of s.scan.settings places) ranks (count s.tabled.bounds) l₁ l₂ b₂
      L' = rw e at L

      pub folds_ranked : RanksGiven ranks (n + rules) (length folds) l₂
      folds_ranked = rw e (Writes.folds_given R.room table T loose L')

      module _ {l₃ : Columns} {b₃ : Bool} (D : Wrote fold (length folds) ranks (n + rules) l₂ l₃ b₃) where
        D' : Wrote fold (length folds) ranks (count s.tabled.bounds + rules) l₂ l₃ b₃
        D' = rw e at D

        pub grids_ranked : RanksGiven grid_ranks 0 (length s.boxed.grids) l₃
        grids_ranked = Writes.grids_given R.room table T loose L' fold D'

        pub wrote_all : {l₄ : Columns} {b₄ : Bool} → Wrote grid (length s.boxed.grids) grid_ranks 0 l₃ l₄ b₄ → WroteAll s places folds l l₄ (b₁ && b₂ && b₃ && b₄)
        wrote_all G = Writes.all_found s.scan s.tabled s.ruled (boxes_of s.boxed) s.dpi places folds R.rules_given R.room T L' D' G
