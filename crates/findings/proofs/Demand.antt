-- Demand 3's last sentence for a page: in the list in which findings are made each kind has its stretch, so each is paired with what it is made from;
-- page coordinates are below 8,192, so the key's order is document 01's.
use mathlib.Core.Path.{◌≡◌, refl, sym, ap, subst, ◌∙◌}
use mathlib.Core.Logic.{⊎_elim}
use mathlib.Core.List.{List, [], ◌++◌, map, append_assoc, append-nil}
use Prim.Native.Nat.{ℕ, ◌+◌, ◌<◌}
use native.Mathlib.Omega.{arith}
use lib.ListN.{length, get_or}
use Rattle.lists.specs.Lists.{below}
use Rattle.rects.specs.Rects.{count, rect_at}
use Rattle.rects.specs.Around.{around}
use Rattle.layout.specs.Steps.{Sheared}
use Rattle.evidence.specs.declared.finding.Finding.{Finding}
use Rattle.evidence.specs.Finding.{kind_number}
use Rattle.evidence.specs.Kinds.{table_finding, free_finding, grid_finding, fold_finding}
use Rattle.findings.specs.Keys.{in_order, Stands, Ordered}
use Rattle.findings.specs.Made.{Scan, RulingLists, TableLists, BoxLists, greatest_of, table_at, free_places, free_count_of, free_of, folds, fold_at, grid_of, made}
use Rattle.findings.specs.Pairing.{FindingsPaired}
use Rattle.findings.proofs.OnPage.{corner_small}
use Rattle.findings.proofs.Ordered.{origin, ordered}
use Rattle.findings.proofs.Pairs.{Without, without_both, without_none, items_without, stands_item, stands_either, stretch}
use Rattle.lists.proofs.Keep.{at_entries}

-- every page rectangle of a list begins below column 8,192
abbrev Small : List Finding → Type 0
Small xs = (m : ℕ) (g : Finding) → Stands xs m g → g.bbox.x0 < 8192

small_both : (xs ys : List Finding) → Small xs → Small ys → Small (xs ++ ys)
small_both xs ys a b m g s = ⊎_elim (λ (u : Stands xs m g). a m g u) (λ (u : (j : ℕ) × (length xs + j ≡ m) × Stands ys j g). b u.0 g u.2) (stands_either xs ys m g s)

items_small : (n : ℕ) (f : ℕ → Finding) → ((k : ℕ) → (f k).bbox.x0 < 8192) → Small (map f (below n))
items_small n f h m g s = let u = stands_item n f m g s in subst (λ (x : Finding). x.bbox.x0 < 8192) (sym u.1) (h m)

module _ (s : Scan) (dpi : ℕ) (r : RulingLists) (printed faint : List ℕ) (t : TableLists) (free : List ℕ) (b : BoxLists) (S : Sheared s.sides s.shear s.shear_x) where
  abbrev places : List ℕ
  places = free_places printed free

  abbrev fs : List ℕ
  fs = folds s.settings dpi r.rects r.directions faint

  abbrev free_at : ℕ → Finding
  free_at k = free_of s r (free_places printed free)

  abbrev fold_here : ℕ → Finding
  fold_here k = fold_at s dpi r (get_or (folds s.settings dpi r.rects r.directions faint) k 0)

  abbrev grid_at_lem : ℕ → Finding
  grid_at_lem k = grid_of s b.rects b.marks b.coverages (b.set (get_or b.grids k 0))

  table_kind : (k : ℕ) → (kind_number (table_at s t k).kind ≡ 16) × ((table_at s t k).bbox.x0 < 8192)
  unfolding table_at table_finding
  table_kind k = (refl, (corner_small s.sides s.shear s.shear_x (rect_at t.bounds k) S).0)

  free_kind : (kind_number (free_of s r (free_places printed free)).kind ≡ 17) × ((free_of s r (free_places printed free)).bbox.x0 < 8192)
  unfolding free_of free_finding greatest_of
  free_kind = (refl, (corner_small s.sides s.shear s.shear_x (around r.rects (free_places printed free)) S).0)

  fold_kind : (k : ℕ) → (kind_number (fold_at s dpi r k).kind ≡ 19) × ((fold_at s dpi r k).bbox.x0 < 8192)
  unfolding fold_at fold_finding
  fold_kind k = (refl, (corner_small s.sides s.shear s.shear_x (rect_at r.rects k) S).0)

  grid_kind : (set : List ℕ) → (kind_number (grid_of s b.rects b.marks b.coverages set).kind ≡ 18) × ((grid_of s b.rects b.marks b.coverages set).bbox.x0 < 8192)
  unfolding grid_of grid_finding
  grid_kind set = (refl, (corner_small s.sides s.shear s.shear_x (around b.rects set) S).0)

  -- the four stretches
  abbrev T : List Finding
  T = map (table_at s t) (below (count t.bounds))

  abbrev F : List Finding
  F = map free_at (below (free_count_of s.settings places))

  abbrev D : List Finding
  D = map fold_here (below (length fs))

  abbrev G : List Finding
  G = map grid_at_lem (below (length b.grids))

  abbrev all : List Finding
  all = made s dpi r printed faint t free b

  made_is : T ++ F ++ D ++ G ≡ all
  made_is =
      ap (λ (x : List Finding). T ++ F ++ x ++ G) (at_entries (fold_at s dpi r) fs)
      ∙ ap (λ (x : List Finding). T ++ F ++ map (fold_at s dpi r) fs ++ x) (at_entries (λ n. grid_of s b.rects b.marks b.coverages (b.set n)) b.grids)

  all_small : Small all
  all_small =
      subst Small made_is
      (small_both (T ++ F ++ D) G
      (small_both (T ++ F) D (small_both T F (items_small (count t.bounds) (table_at s t) (λ k. (table_kind k).1)) (items_small (free_count_of s.settings places) free_at (λ k. free_kind.1)))
      (items_small (length fs) fold_here (λ k. (fold_kind (get_or fs k 0)).1)))
      (items_small (length b.grids) grid_at_lem (λ k. (grid_kind (b.set (get_or b.grids k 0))).1)))

  whole : Ordered all (in_order all) (origin all)
  whole = ordered all all_small

  grouped : (xs : List Finding) → xs ≡ all → Ordered xs (in_order all) (origin all)
  grouped xs e = subst (λ (x : List Finding). Ordered x (in_order all) (origin all)) (sym e) whole

  -- which kinds a stretch does not have
  no_tables : (other : ℕ) → (16 ≡ other → ⊥) → Without other T
  no_tables other h = items_without (count t.bounds) (table_at s t) 16 other (λ k l. (table_kind k).0) h

  no_rules : (other : ℕ) → (17 ≡ other → ⊥) → Without other F
  no_rules other h = items_without (free_count_of s.settings places) free_at 17 other (λ k l. free_kind.0) h

  no_folds : (other : ℕ) → (19 ≡ other → ⊥) → Without other D
  no_folds other h = items_without (length fs) fold_here 19 other (λ k l. (fold_kind (get_or fs k 0)).0) h

  no_grids : (other : ℕ) → (18 ≡ other → ⊥) → Without other G
  no_grids other h = items_without (length b.grids) grid_at_lem 18 other (λ k l. (grid_kind (b.set (get_or b.grids k 0))).0) h

  pub findings_paired : FindingsPaired s dpi r printed faint t free b
  findings_paired =
      record {
        tables = stretch (count t.bounds) (table_at s t) 16 [] (F ++ D ++ G) (grouped (T ++ (F ++ D ++ G)) (sym (append_assoc T (F ++ D) G) ∙ made_left)) (λ k l. (table_kind k).0) (without_none 16)
            (without_both 16 (F ++ D) G (without_both 16 F D (no_rules 16 (λ e. omega arith)) (no_folds 16 (λ e. omega arith))) (no_grids 16 (λ e. omega arith)));
        free_rules = stretch (free_count_of s.settings places) free_at 17 T (D ++ G) (grouped (T ++ F ++ (D ++ G)) (sym (append_assoc (T ++ F) D G) ∙ made_is)) (λ k l. free_kind.0) (no_tables 17 (λ e. omega arith))
            (without_both 17 D G (no_folds 17 (λ e. omega arith)) (no_grids 17 (λ e. omega arith)));
        grids = stretch (length b.grids) grid_at_lem 18 (T ++ F ++ D) [] (grouped (T ++ F ++ D ++ G ++ []) (append-nil (T ++ F ++ D ++ G) ∙ made_is)) (λ k l. (grid_kind (b.set (get_or b.grids k 0))).0)
            (without_both 18 (T ++ F) D (without_both 18 T F (no_tables 18 (λ e. omega arith)) (no_rules 18 (λ e. omega arith))) (no_folds 18 (λ e. omega arith))) (without_none 18);
        fold_lines = stretch (length fs) fold_here 19 (T ++ F) G (grouped (T ++ F ++ D ++ G) made_is) (λ k l. (fold_kind (get_or fs k 0)).0)
            (without_both 19 T F (no_tables 19 (λ e. omega arith)) (no_rules 19 (λ e. omega arith))) (no_grids 19 (λ e. omega arith));
        order = (origin all, whole);
      }
    where
      made_left : T ++ (F ++ D) ++ G ≡ all
      made_left = ap (λ (x : List Finding). x ++ G) (sym (append_assoc T F D)) ∙ made_is
