-- The nine stages put together: what they leave are the findings.
use mathlib.Core.Path.{◌≡◌, refl}
use mathlib.Core.Bool.{Bool, ◌&&◌}
use mathlib.Core.List.{List, map}
use Prim.Native.Nat.{ℕ, ◌+◌}
use lib.ListN.{length, get_or, take}
use lib.Seq.{sets}
use Rattle.lists.specs.Lists.{written}
use Rattle.rects.specs.Rects.{count}
use Rattle.ranks.specs.Ranks.{Ranked}
use Rattle.finding_lists.specs.Columns.{Columns}
use Rattle.finding_lists.specs.Steps.{Wrote}
use Rattle.findings.specs.Steps.{grid_key, Front, FirstKeyed}
use Rattle.findings.specs.Made.{table_at, free_of, free_count_of, fold_at, grid_of}
use Rattle.grid_findings.specs.Boxes.{sets_of}
use Rattle.page_findings.specs.Sources.{Sources, freed, folded}
use Rattle.page_findings.specs.Steps.{Work, Ready, Left}
use Rattle.page_findings.proofs.Making.{writing_given, page_found}
use Rattle.page_findings.proofs.Writing.{wrote_all}

-- the places of the free rulings and of the folds; the keys of both runs, and their ranks; then tables, free rules, folds and grids at their ranks
pub whole : (s : Sources) {w : Work} {pl fo ks gs ra rb : List ℕ} {m r : ℕ} {l₀ l₁ l₂ l₃ l₄ : Columns} {b₁ b₂ b₃ b₄ : Bool}
    → Ready s w l₀
    → pl ≡ written (freed s) w.places
    → Front (folded s) w.folds fo m
    → FirstKeyed s.scan.sides s.scan.shear s.scan.shear_x s.scan.settings s.tabled.bounds s.ruled.rects (take (length s.free) pl) (take m fo) w.keys ks r
    → gs ≡ sets w.grid_keys 0 (map (λ n. grid_key s.scan.sides s.scan.shear s.scan.shear_x s.boxed.rects (sets_of s.boxed n)) s.boxed.grids)
    → Ranked (take (count s.tabled.bounds + r + m) ks) (take (length s.boxed.grids) gs) ra rb
    → length ra ≡ length w.ranks
    → length rb ≡ length w.grid_ranks
    → Wrote (table_at s.scan s.tabled) (count s.tabled.bounds) ra 0 l₀ l₁ b₁
    → Wrote (λ k. free_of s.scan s.ruled (take (length s.free) pl)) (free_count_of s.scan.settings (take (length s.free) pl)) ra (count s.tabled.bounds) l₁ l₂ b₂
    → Wrote (λ k. fold_at s.scan s.dpi s.ruled (get_or (take m fo) k 0)) (length (take m fo)) ra (count s.tabled.bounds + r) l₂ l₃ b₃
    → Wrote (λ k. grid_of s.scan s.boxed.rects s.boxed.marks s.boxed.coverages (sets_of s.boxed (get_or s.boxed.grids k 0))) (length s.boxed.grids) rb 0 l₃ l₄ b₄
    → Left s l₀ l₄ (count s.tabled.bounds + r + m + length s.boxed.grids) (b₁ && b₂ && b₃ && b₄)
whole s R P F K G Q la lb T L D X = page_found s R P F K G Q la lb (wrote_all s (writing_given s R P F K G Q la lb) refl T L D X)
