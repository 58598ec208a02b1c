-- What making the findings of a page asks and leaves; none of it is needed to read the call's contract.
use Rattle.std.specs.Prelude.{◌≡◌, Bool, List, ◌++◌, ℕ, ◌*◌, ◌≤◌, length}
use Rattle.rects.specs.Rects.{count}
use Rattle.finding_lists.specs.Columns.{Columns}
use Rattle.findings.specs.Made.{free_count_of, first_findings, grid_findings}
use Rattle.findings.specs.Steps.{first_keys, grid_keys_of, Mapping, AllGiven, TablesGiven, NumbersGiven, GridsGiven, FindRoom, WriteRoom, AllFound, PageFound}
use Rattle.grid_findings.specs.Boxes.{sets_of}
use Rattle.page.specs.declared.counts.Counts.{Counts}
use Rattle.page.specs.Page.{Page}
use Rattle.page.specs.Lent.{RuleLists, MarkLists}
use Rattle.page_findings.specs.Sources.{Sources, boxes_of, Lists, sources}

-- The work lists.
pub record Work : Type 0 where
  pub places : List ℕ
  pub folds : List ℕ
  pub keys : List ℕ
  pub grid_keys : List ℕ
  pub order : List ℕ
  pub grid_order : List ℕ
  pub ranks : List ℕ
  pub grid_ranks : List ℕ

abbrev pub work_of : RuleLists → MarkLists → Work
work_of r k =
    record {
      places = r.parents;
      folds = r.order;
      keys = r.keys;
      grid_keys = k.keys;
      order = r.listed;
      grid_order = k.parents;
      ranks = r.listed_ends;
      grid_ranks = k.order;
    }

-- Each list holds what was found.
pub record Long (n : Counts) (l : Lists) : Type 0 where
  pub rects : 4 * n.rulings ≤ length l.rects
  pub directions : n.rulings ≤ length l.directions
  pub contrasts : n.rulings ≤ length l.contrasts
  pub printed : n.printed ≤ length l.printed
  pub faint : n.faint ≤ length l.faint
  pub bounds : 4 * n.tables ≤ length l.bounds
  pub rows : n.tables ≤ length l.rows
  pub columns : n.tables ≤ length l.columns
  pub rulings : n.tables ≤ length l.rulings
  pub shares : n.tables ≤ length l.shares
  pub free : n.free ≤ length l.free
  pub boxes : 4 * n.boxes ≤ length l.boxes
  pub marks : n.boxes ≤ length l.marks
  pub coverages : n.boxes ≤ length l.coverages
  pub numbers : n.grids ≤ length l.numbers

-- What is made from is given, and there is room.
pub record Ready (s : Sources) (w : Work) (l : Columns) : Type 0 where
  pub mapping : Mapping s.scan.sides s.scan.shear s.scan.shear_x
  pub rules : 1 ≤ s.scan.settings.min_free_rules
  pub printed_given : AllGiven s.scan.sides.w s.scan.sides.h s.ruled.rects s.ruled.directions s.ruled.contrasts s.printed
  pub faint_given : AllGiven s.scan.sides.w s.scan.sides.h s.ruled.rects s.ruled.directions s.ruled.contrasts s.faint
  pub tables_given : TablesGiven s.scan.sides.w s.scan.sides.h s.tabled.bounds s.tabled.rows s.tabled.columns s.tabled.rulings s.tabled.shares
  pub free_given : NumbersGiven s.printed s.free
  pub grids_given : GridsGiven s.scan.sides.w s.scan.sides.h s.boxed.rects s.boxed.marks s.boxed.coverages (sets_of s.boxed) s.boxed.grids
  pub room : FindRoom s.scan.settings s.dpi s.ruled.rects s.ruled.directions s.printed s.faint s.tabled.bounds s.free s.boxed.grids
      w.places w.folds w.keys w.grid_keys w.order w.grid_order w.ranks w.grid_ranks l

-- The same of the front parts of lists that hold what was found.
pub record ReadyIn (g : Page) (n : Counts) (l : Lists) (w : Work) (c : Columns) : Type 0 where
  pub long : Long n l
  pub ready : Ready (sources g n l) w c

-- The ranks of both runs are given, and how many findings the free rules make.
pub record ReadyToWrite (s : Sources) (places folds : List ℕ) (rules : ℕ) (ranks grid_ranks : List ℕ) (l : Columns) : Type 0 where
  pub some_rules : 1 ≤ s.scan.settings.min_free_rules
  pub rules_given : rules ≡ free_count_of s.scan.settings places
  pub tables_given : TablesGiven s.scan.sides.w s.scan.sides.h s.tabled.bounds s.tabled.rows s.tabled.columns s.tabled.rulings s.tabled.shares
  pub places_given : AllGiven s.scan.sides.w s.scan.sides.h s.ruled.rects s.ruled.directions s.ruled.contrasts places
  pub folds_given : AllGiven s.scan.sides.w s.scan.sides.h s.ruled.rects s.ruled.directions s.ruled.contrasts folds
  pub grids_given : GridsGiven s.scan.sides.w s.scan.sides.h s.boxed.rects s.boxed.marks s.boxed.coverages (sets_of s.boxed) s.boxed.grids
  pub room : WriteRoom s.scan.settings folds s.boxed.grids
      (first_keys s.scan.sides s.scan.shear s.scan.shear_x s.scan.settings s.tabled.bounds s.ruled.rects places folds)
      (grid_keys_of s.scan.sides s.scan.shear s.scan.shear_x s.boxed.rects (sets_of s.boxed) s.boxed.grids) ranks grid_ranks (count s.tabled.bounds) rules l

-- All findings are stored, those of the free rules and of the folds from the places given.
abbrev pub WroteAll : Sources → List ℕ → List ℕ → Columns → Columns → Bool → Type 0
WroteAll s places folds l l' finite =
    AllFound (first_findings s.scan s.dpi s.tabled s.ruled places folds ++ grid_findings s.scan (boxes_of s.boxed)) l l' finite

-- What the findings leave.
abbrev pub Left : Sources → Columns → Columns → ℕ → Bool → Type 0
Left s l l' n finite = PageFound s.scan s.dpi s.ruled s.printed s.faint s.tabled s.free (boxes_of s.boxed) l l' n finite

-- All lists but the work lists hold what they did.
abbrev pub KeptRules : RuleLists → RuleLists → Type 0
KeptRules r r' = r' ≡ record r { parents = r'.parents; listed = r'.listed; listed_ends = r'.listed_ends; order = r'.order; keys = r'.keys }

abbrev pub KeptMarks : MarkLists → MarkLists → Type 0
KeptMarks k k' = k' ≡ record k { parents = k'.parents; order = k'.order; keys = k'.keys }
