-- Document 01's findings: one for each table, one for the free rules if there are enough, one for each fold, one for each grid.
use Rattle.std.specs.Prelude.{Bool, true, not, cond, ◌&&◌, List, [], ◌∷◌, ◌++◌, map, ℕ, max, eqb, leb, ℤ, Float, length, get_or}
use Rattle.std.specs.Float.{nan, binary64}
use Rattle.std.specs.Float.Ieee.{div}
use Rattle.lists.specs.Lists.{one, below, keep}
use Rattle.math.specs.Sum.{pairwise_sum, values_at, whole}
use Rattle.rects.specs.declared.Rect.{Rect}
use Rattle.rects.specs.Rects.{width_of, height_of, rect_at, count}
use Rattle.rects.specs.Around.{around}
use Rattle.layout.specs.declared.sides.Sides.{Sides}
use Rattle.layout.specs.declared.rect.PageRect.{PageRect}
use Rattle.layout.specs.ToPage.{rect_to_page}
use Rattle.params.specs.declared.settings.RulingsParams.{RulingsParams}
use Rattle.params.specs.declared.settings.FusionParams.{FusionParams}
use Rattle.evidence.specs.declared.finding.Finding.{Finding}
use Rattle.evidence.specs.Finding.{finite_finding}
use Rattle.evidence.specs.Kinds.{inches_of, is_fold, table_finding, free_finding, grid_finding, fold_finding}

-- What findings are scored by: the way back to the page, the settings and the caps.
pub record Scan : Type 0 where
  pub sides : Sides
  pub shear : List ℤ
  pub shear_x : List ℤ
  pub settings : RulingsParams
  pub caps : FusionParams

-- The rulings.
pub record RulingLists : Type 0 where
  pub rects : List ℕ
  pub directions : List ℕ
  pub contrasts : List Float

-- The tables.
pub record TableLists : Type 0 where
  pub bounds : List ℕ
  pub rows : List ℕ
  pub columns : List ℕ
  pub rulings : List ℕ
  pub shares : List Float

-- The boxes, their sets by number, and the numbers of the sets that are grids.
pub record BoxLists : Type 0 where
  pub rects : List ℕ
  pub marks : List ℕ
  pub coverages : List Float
  pub set : ℕ → List ℕ
  pub grids : List ℕ

-- A rectangle's place on the page.
abbrev pub on_page : Scan → Rect → PageRect
on_page s r = rect_to_page s.sides s.shear s.shear_x r

-- A ruling is horizontal where its direction is 0; its length runs along it.
abbrev pub lying : List ℕ → ℕ → Bool
lying directions k = eqb (get_or directions k 0) 0

abbrev pub length_of : Rect → Bool → ℕ
length_of r horizontal = cond horizontal (width_of r) (height_of r)

abbrev pub length_at : List ℕ → List ℕ → ℕ → ℕ
length_at rects directions k = length_of (rect_at rects k) (lying directions k)

-- The mean of the values at some places: their pairwise sum in the listed order over their number.
abbrev pub mean_at : List Float → List ℕ → Float
mean_at values places = div binary64 (pairwise_sum (values_at values places)) (whole (length places))

-- The greatest of some numbers; 0 for none.
unfoldable pub greatest_of : List ℕ → ℕ
greatest_of [] = 0
greatest_of (n ∷ ns) = max n (greatest_of ns)

-- ---- tables

unfoldable pub table_at : Scan → TableLists → ℕ → Finding
table_at s t k =
    table_finding s.settings s.caps (on_page s (rect_at t.bounds k)) (get_or t.rows k 0) (get_or t.columns k 0)
    (get_or t.rulings k 0) (get_or t.shares k nan)

abbrev pub table_findings : Scan → TableLists → List Finding
table_findings s t = map (table_at s t) (below (count t.bounds))

-- ---- free rules

-- The places of the free rulings among all rulings, in the order of the free list, whose entries are places among the printed ones.
abbrev pub free_places : List ℕ → List ℕ → List ℕ
free_places printed free = map (λ i. get_or printed i 0) free

-- Of the rulings at some places: how many are horizontal, how many vertical, and the longest one's length.
abbrev pub horizontals : RulingLists → List ℕ → ℕ
horizontals r places = length (keep (lying r.directions) places)

abbrev pub verticals : RulingLists → List ℕ → ℕ
verticals r places = length (keep (λ k. not (lying r.directions k)) places)

abbrev pub longest : RulingLists → List ℕ → ℕ
longest r places = greatest_of (map (length_at r.rects r.directions) places)

unfoldable pub free_of : Scan → RulingLists → List ℕ → Finding
unfolding greatest_of
free_of s r places =
    free_finding s.settings s.caps (on_page s (around r.rects places)) (length places) (horizontals r places) (verticals r places)
    (longest r places) (mean_at r.contrasts places)

-- How many findings free rules at some places make: one if they are at least min_free_rules.
abbrev pub free_count_of : RulingsParams → List ℕ → ℕ
free_count_of p places = one (leb p.min_free_rules (length places))

-- The finding of the free rules, if there is one.
abbrev pub free_findings : Scan → RulingLists → List ℕ → List Finding
free_findings s r places = map (λ k. free_of s r places) (below (free_count_of s.settings places))

-- ---- folds

abbrev pub fold_inches : ℕ → List ℕ → List ℕ → ℕ → Float
fold_inches dpi rects directions k = inches_of (length_at rects directions k) dpi

-- The faint rulings of at least fold_min_length_in.
abbrev pub folds : RulingsParams → ℕ → List ℕ → List ℕ → List ℕ → List ℕ
folds p dpi rects directions faint = keep (λ k. is_fold p (fold_inches dpi rects directions k)) faint

unfoldable pub fold_at : Scan → ℕ → RulingLists → ℕ → Finding
fold_at s dpi r k =
    fold_finding s.settings s.caps (on_page s (rect_at r.rects k)) (not (lying r.directions k))
    (fold_inches dpi r.rects r.directions k) (get_or r.contrasts k nan)

abbrev pub fold_findings : Scan → ℕ → RulingLists → List ℕ → List Finding
fold_findings s dpi r places = map (fold_at s dpi r) places

-- ---- grids

-- How many boxes of a set are ticked: those with mark 1.
abbrev pub ticked : List ℕ → List ℕ → ℕ
ticked marks set = length (keep (λ i. eqb (get_or marks i 0) 1) set)

-- The finding of the grid that is a set of boxes, from the boxes' rectangles, marks and coverages.
unfoldable pub grid_of : Scan → List ℕ → List ℕ → List Float → List ℕ → Finding
grid_of s rects marks coverages set =
    grid_finding s.settings s.caps (on_page s (around rects set)) (length set) (ticked marks set) (mean_at coverages set)

abbrev pub grid_findings : Scan → BoxLists → List Finding
grid_findings s b = map (λ n. grid_of s b.rects b.marks b.coverages (b.set n)) b.grids

-- ---- all

-- The findings of tables, of the free rules at some places, and of the folds at some places.
abbrev pub first_findings : Scan → ℕ → TableLists → RulingLists → List ℕ → List ℕ → List Finding
first_findings s dpi t r free fs = table_findings s t ++ free_findings s r free ++ fold_findings s dpi r fs

-- The findings in the order in which they are made: tables, free rules, folds, grids.
abbrev pub made : Scan → ℕ → RulingLists → List ℕ → List ℕ → TableLists → List ℕ → BoxLists → List Finding
made s dpi r printed faint t free b =
    first_findings s dpi t r (free_places printed free) (folds s.settings dpi r.rects r.directions faint) ++ grid_findings s b

-- Question 15: every evidence number of every finding is finite.
abbrev pub every_finite : List Finding → Bool
every_finite [] = true
every_finite (f ∷ fs) = finite_finding f && every_finite fs
