-- What the smaller calls list, given what a page gives them, `detect` lists too.
use Rattle.std.specs.Prelude.{◌≡◌, List, map, length, get_or, take}
use Rattle.lists.specs.Lists.{concat}
use Rattle.sets.specs.Listing.{ends_from}
use Rattle.rects.specs.Rects.{rect_at, numbers_of}
use Rattle.ruling_questions.specs.Lent as RulingLists
use Rattle.segments.specs.Call as Segments
use Rattle.tables.specs.Call as Tables
use Rattle.boxes.specs.Call as Boxes
use Rattle.grids.specs.Call as Grids
use Rattle.grids.specs.Lent as GridLists
use Rattle.page.specs.Page as Page
use Rattle.page.specs.Page.{Page}
use Rattle.page.specs.Lent.{Lent}

-- What each is given of a page: `tables` the printed rulings alone, `box_grids` the boxes that were found.
abbrev pub for_segments : Page → Segments.Given
for_segments g =
    record { raster = Page.raster g; w = g.sides.w; h = g.sides.h; xheight = g.xheight; settings = g.settings; pieces = g.pieces }

abbrev pub for_tables : Page → Tables.Given
for_tables g =
    record {
      xheight = g.xheight;
      settings = g.settings;
      rects = concat (map (λ k. numbers_of (rect_at (Page.rects g) k)) (Page.printed g));
      directions = map (λ k. get_or (Page.directions g) k 0) (Page.printed g);
    }

abbrev pub for_boxes : Page → Boxes.Given
for_boxes g =
    record { w = g.sides.w; h = g.sides.h; dpi = g.dpi; xheight = g.xheight; settings = g.settings; ink = g.ink; glyphs = g.glyphs }

abbrev pub for_grids : Page → Grids.Given
for_grids g = record { xheight = g.xheight; settings = g.settings; rects = Page.box_rects g }

-- Two lists begin with the same answers xs.
pub record Both {A : Type 0} (xs l m : List A) : Type 0 where
  pub first : take (length xs) l ≡ xs
  pub second : take (length xs) m ≡ xs

-- What `segments` left in s, and `detect` in l.
pub record SameRulings (g : Page) (l : Lent) (s : RulingLists.Lent) : Type 0 where
  pub rects : Both (Page.rects g) l.rules.rects s.rects
  pub directions : Both (Page.directions g) l.rules.directions s.directions
  pub contrasts : Both (Page.contrasts g) l.rules.contrasts s.contrasts
  pub members : Both (concat (Page.piece_sets g)) l.rules.piece_members s.piece_members
  pub ends : Both (ends_from 0 (Page.piece_sets g)) l.rules.piece_ends s.piece_ends

-- What `tables` left in t: its indexes are places among the printed rulings.
pub record SameTables (g : Page) (l : Lent) (t : Tables.Lent) : Type 0 where
  pub members : Both (concat (Page.printed_sets g)) l.rules.printed_members t.printed_members
  pub ends : Both (ends_from 0 (Page.printed_sets g)) l.rules.printed_ends t.printed_ends
  pub numbers : Both (Page.table_numbers g) l.rules.numbers t.numbers
  pub bounds : Both (Page.bounds g) l.rules.bounds t.bounds
  pub rows : Both (Page.rows g) l.rules.rows t.rows
  pub columns : Both (Page.columns g) l.rules.columns t.columns
  pub rulings : Both (Page.rulings g) l.rules.rulings t.rulings
  pub shares : Both (Page.shares g) l.rules.shares t.shares
  pub free : Both (Page.free g) l.rules.free t.free

pub record SameBoxes (g : Page) (l : Lent) (b : Boxes.Lent) : Type 0 where
  pub rects : Both (Page.box_rects g) l.marks.boxes b.rects
  pub marks : Both (Page.marks g) l.marks.marks b.marks
  pub coverages : Both (Page.coverages g) l.marks.coverages b.coverages

pub record SameGrids (g : Page) (l : Lent) (q : GridLists.Lent) : Type 0 where
  pub members : Both (concat (Page.box_sets g)) l.marks.members q.members
  pub ends : Both (ends_from 0 (Page.box_sets g)) l.marks.ends q.ends
  pub reading : Both (Page.reading g) l.marks.reading q.reading
  pub numbers : Both (Page.grid_numbers g) l.marks.numbers q.numbers
