-- What the findings of a page are made from: the lists that hold what was found on it, and the front part of each.
use Rattle.std.specs.Prelude.{List, ℕ, ◌*◌, Float, take}
use Rattle.findings.specs.Made.{Scan, RulingLists, TableLists, BoxLists, free_places, folds}
use Rattle.grid_findings.specs.Boxes.{Boxes, sets_of}
use Rattle.page.specs.declared.counts.Counts.{Counts}
use Rattle.page.specs.Page as Page
use Rattle.page.specs.Page.{Page}
use Rattle.page.specs.Lent.{RuleLists, MarkLists}

pub record Sources : Type 0 where
  pub scan : Scan
  pub dpi : ℕ
  pub ruled : RulingLists
  pub printed : List ℕ
  pub faint : List ℕ
  pub tabled : TableLists
  pub free : List ℕ
  pub boxed : Boxes

-- The boxes, with the sets by number.
abbrev pub boxes_of : Boxes → BoxLists
boxes_of b = record { rects = b.rects; marks = b.marks; coverages = b.coverages; set = sets_of b; grids = b.grids }

-- The places of the free rulings, and of the folds.
abbrev pub freed : Sources → List ℕ
freed s = free_places s.printed s.free

abbrev pub folded : Sources → List ℕ
folded s = folds s.scan.settings s.dpi s.ruled.rects s.ruled.directions s.faint

-- The lists that hold what was found.
pub record Lists : Type 0 where
  pub rects : List ℕ
  pub directions : List ℕ
  pub contrasts : List Float
  pub printed : List ℕ
  pub faint : List ℕ
  pub bounds : List ℕ
  pub rows : List ℕ
  pub columns : List ℕ
  pub rulings : List ℕ
  pub shares : List Float
  pub free : List ℕ
  pub boxes : List ℕ
  pub marks : List ℕ
  pub coverages : List Float
  pub members : List ℕ
  pub ends : List ℕ
  pub numbers : List ℕ

abbrev pub lists_of : RuleLists → MarkLists → Lists
lists_of r k =
    record {
      rects = r.rects;
      directions = r.directions;
      contrasts = r.contrasts;
      printed = r.printed;
      faint = r.faint;
      bounds = r.bounds;
      rows = r.rows;
      columns = r.columns;
      rulings = r.rulings;
      shares = r.shares;
      free = r.free;
      boxes = k.boxes;
      marks = k.marks;
      coverages = k.coverages;
      members = k.members;
      ends = k.ends;
      numbers = k.numbers;
    }

-- What they hold of a page, by how much was found.
abbrev pub sources : Page → Counts → Lists → Sources
sources g n l =
    record {
      scan = Page.scan g;
      dpi = g.dpi;
      ruled = record { rects = take (4 * n.rulings) l.rects; directions = take n.rulings l.directions; contrasts = take n.rulings l.contrasts };
      printed = take n.printed l.printed;
      faint = take n.faint l.faint;
      tabled = record {
        bounds = take (4 * n.tables) l.bounds;
        rows = take n.tables l.rows;
        columns = take n.tables l.columns;
        rulings = take n.tables l.rulings;
        shares = take n.tables l.shares;
      };
      free = take n.free l.free;
      boxed = record {
        rects = take (4 * n.boxes) l.boxes;
        marks = take n.boxes l.marks;
        coverages = take n.boxes l.coverages;
        members = l.members;
        ends = l.ends;
        count = n.box_sets;
        grids = take n.grids l.numbers;
      };
    }
