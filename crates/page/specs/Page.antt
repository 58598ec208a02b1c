-- A page as `detect` is given it, and what document 01 says is found on it, list by list.
use Rattle.std.specs.Prelude.{List, [], ℕ, ℤ, Float, get_or}
use Rattle.layout.specs.declared.sides.Sides.{Sides}
use Rattle.layout.specs.Level.{levelled}
use Rattle.params.specs.declared.settings.RulingsParams.{RulingsParams}
use Rattle.params.specs.declared.settings.FusionParams.{FusionParams}
use Rattle.segments.specs.Call as Segments
use Rattle.ruling_lists.specs.Rulings.{ruling_rects, directions_of, contrasts_of}
use Rattle.printed_rulings.specs.Printed.{printed_places, faint_places}
use Rattle.shapes.specs.declared.limits.Limits.{Limits}
use Rattle.shapes.specs.Limits.{table_limits_of}
use Rattle.tables.specs.Call as Tables
use Rattle.glyph_tests.specs.declared.found.CheckBox.{CheckBox}
use Rattle.box_lists.specs.Boxes as Boxes
use Rattle.boxes.specs.Call.{page_boxes}
use Rattle.grids.specs.Grids as Grids
use Rattle.grids.specs.Call.{sets_of}
use Rattle.evidence.specs.declared.finding.Finding.{Finding}
use Rattle.findings.specs.Made as Made
use Rattle.findings.specs.Keys.{in_order}

-- What is given: page and levelled sides, resolution and x-height, settings and caps, the grey and the ink, the shear tables, rule pieces and
-- glyph boxes.
pub record Page : Type 0 where
  pub sides : Sides
  pub dpi : ℕ
  pub xheight : Float
  pub settings : RulingsParams
  pub caps : FusionParams
  pub gray : List ℕ
  pub ink : List ℕ
  pub shear : List ℤ
  pub shear_x : List ℤ
  pub pieces : List ℕ
  pub glyphs : List ℕ

module _ (g : Page) where
  -- the levelled raster
  abbrev pub raster : List ℕ
  raster = levelled g.sides g.gray g.shear g.shear_x

  -- ---- rulings

  -- the sets of pieces, in the order of their rulings
  abbrev pub piece_sets : List (List ℕ)
  piece_sets = Segments.sets_of g.xheight g.pieces g.settings

  abbrev pub rects : List ℕ
  rects = ruling_rects g.pieces piece_sets

  abbrev pub directions : List ℕ
  directions = directions_of g.pieces piece_sets

  abbrev pub contrasts : List Float
  contrasts = contrasts_of raster g.sides.w g.sides.h g.pieces piece_sets

  -- the places of the printed rulings and of the faint ones
  abbrev pub printed : List ℕ
  printed = printed_places g.settings contrasts

  abbrev pub faint : List ℕ
  faint = faint_places g.settings contrasts

  -- ---- tables, found among the printed rulings

  abbrev pub table_limits : Limits
  table_limits = table_limits_of g.settings g.xheight

  -- the sets of printed rulings, by smallest index: places among the printed
  abbrev pub printed_sets : List (List ℕ)
  printed_sets = Tables.all_sets rects directions printed table_limits

  -- the numbers of the sets that are tables, and what is listed of each
  abbrev pub table_numbers : List ℕ
  table_numbers = Tables.tables rects directions printed table_limits

  abbrev pub bounds : List ℕ
  bounds = Tables.bounds rects directions printed table_limits

  abbrev pub rows : List ℕ
  rows = Tables.rows rects directions printed table_limits

  abbrev pub columns : List ℕ
  columns = Tables.columns rects directions printed table_limits

  abbrev pub rulings : List ℕ
  rulings = Tables.rulings rects directions printed table_limits

  abbrev pub shares : List Float
  shares = Tables.shares rects directions printed table_limits

  -- the refused sets strung in order
  abbrev pub free : List ℕ
  free = Tables.free rects directions printed table_limits

  -- ---- boxes and grids

  abbrev pub boxes : List CheckBox
  boxes = page_boxes g.sides.w g.dpi g.xheight g.ink g.glyphs g.settings

  abbrev pub box_rects : List ℕ
  box_rects = Boxes.frames_of boxes

  abbrev pub marks : List ℕ
  marks = Boxes.marks_of boxes

  abbrev pub coverages : List Float
  coverages = Boxes.coverages_of boxes

  -- the sets of boxes, by smallest index, and their reading orders in the same places
  abbrev pub box_sets : List (List ℕ)
  box_sets = sets_of g.xheight g.settings box_rects

  abbrev pub reading : List ℕ
  reading = Grids.readings box_rects box_sets

  -- the numbers of the sets that are grids
  abbrev pub grid_numbers : List ℕ
  grid_numbers = Grids.grids g.settings.grid_min_boxes box_sets

  -- ---- findings

  -- what they are scored by, and what they are made from
  abbrev pub scan : Made.Scan
  scan = record { sides = g.sides; shear = g.shear; shear_x = g.shear_x; settings = g.settings; caps = g.caps }

  abbrev pub ruled : Made.RulingLists
  ruled = record { rects = rects; directions = directions; contrasts = contrasts }

  abbrev pub tabled : Made.TableLists
  tabled = record { bounds = bounds; rows = rows; columns = columns; rulings = rulings; shares = shares }

  abbrev pub boxed : Made.BoxLists
  boxed = record { rects = box_rects; marks = marks; coverages = coverages; set = λ k. get_or box_sets k []; grids = grid_numbers }

  -- the findings in the order in which they are made
  abbrev pub made : List Finding
  made = Made.made scan g.dpi ruled printed faint tabled free boxed

  -- the findings in document 01's order
  abbrev pub findings : List Finding
  findings = in_order made
