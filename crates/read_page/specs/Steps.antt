-- What reading a page asks and leaves: rulings and tables, boxes and grids; none of it is needed to read the call's contract.
use Rattle.std.specs.Prelude.{◌≡◌, List, map, ℕ, ◌*◌, ◌≤◌, length}
use Rattle.sets.specs.Listing.{ReadAs}
use Rattle.questions.specs.Questions.{first_missed}
use Rattle.rects.specs.Rects.{count}
use Rattle.rects.specs.Steps.{AllInside}
use Rattle.segments.specs.Call.{AllNear}
use Rattle.reading_order.specs.Reading.{reading_order}
use Rattle.page.specs.Page as Page
use Rattle.page.specs.Page.{Page}
use Rattle.page.specs.Lent.{RuleLists, MarkLists}
use Rattle.page.specs.Questions.{given_questions}
use Rattle.page.specs.Call.{RuleAnswers, MarkAnswers}
use Rattle.page.specs.Steps.{RuleRoom, MarkRoom}
use Rattle.read_page.specs.declared.rules.Counts as Rules
use Rattle.read_page.specs.declared.marks.Counts as Marks

-- The lists hold n rulings and k places.
pub record PartsLong (n k : ℕ) (rects directions places : List ℕ) : Type 0 where
  pub rects_long : 4 * n ≤ length rects
  pub directions_long : n ≤ length directions
  pub places_long : k ≤ length places

-- The page passed questions 1 to 13, and the lists have their room.
pub record RulesReady (g : Page) (r : RuleLists) : Type 0 where
  pub given : first_missed (given_questions g) ≡ 0
  pub room : RuleRoom g.sides.w g.sides.h (count g.pieces) r

pub record MarksReady (g : Page) (k : MarkLists) : Type 0 where
  pub given : first_missed (given_questions g) ≡ 0
  pub room : MarkRoom (count g.glyphs) k

-- The work lists are as long as they were.
pub record RuleWorkLong (r r' : RuleLists) : Type 0 where
  pub parents : length r'.parents ≡ length r.parents
  pub listed : length r'.listed ≡ length r.listed
  pub listed_ends : length r'.listed_ends ≡ length r.listed_ends
  pub order : length r'.order ≡ length r.order
  pub keys : length r'.keys ≡ length r.keys

pub record MarkWorkLong (k k' : MarkLists) : Type 0 where
  pub parents : length k'.parents ≡ length k.parents
  pub order : length k'.order ≡ length k.order
  pub keys : length k'.keys ≡ length k.keys

-- The lists hold the page's rulings and tables, each count is the length of its list, each set is given back, and each contrast is near its exact value.
pub record RulesDone (g : Page) (r r' : RuleLists) (n : Rules.Counts) : Type 0 where
  pub rulings : n.rulings ≡ length (Page.piece_sets g)
  pub printed : n.printed ≡ length (Page.printed g)
  pub faint : n.faint ≡ length (Page.faint g)
  pub tables : n.tables ≡ length (Page.table_numbers g)
  pub printed_sets : n.printed_sets ≡ length (Page.printed_sets g)
  pub free : n.free ≡ length (Page.free g)
  pub levelled : r'.levelled ≡ Page.raster g
  pub answers : RuleAnswers g r r'
  pub pieces_read : ReadAs (Page.piece_sets g) r'.piece_members r'.piece_ends (length (Page.piece_sets g))
  pub printed_read : ReadAs (Page.printed_sets g) r'.printed_members r'.printed_ends (length (Page.printed_sets g))
  pub near : AllNear (Page.raster g) g.sides.w g.sides.h g.pieces (Page.piece_sets g) r'.contrasts
  pub work_long : RuleWorkLong r r'

-- The lists hold the page's boxes and grids, likewise, and the boxes lie in the picture.
pub record MarksDone (g : Page) (k k' : MarkLists) (n : Marks.Counts) : Type 0 where
  pub boxes : n.boxes ≡ length (Page.boxes g)
  pub grids : n.grids ≡ length (Page.grid_numbers g)
  pub box_sets : n.box_sets ≡ length (Page.box_sets g)
  pub answers : MarkAnswers g k k'
  pub boxes_read : ReadAs (Page.box_sets g) k'.members k'.ends (length (Page.box_sets g))
  pub reading_read : ReadAs (map (reading_order (Page.box_rects g)) (Page.box_sets g)) k'.reading k'.ends (length (Page.box_sets g))
  pub few : length (Page.boxes g) ≤ count g.glyphs
  pub picture : AllInside g.sides.w g.sides.h (Page.box_rects g)
  pub below : AllInside 8192 8192 (Page.box_rects g)
  pub work_long : MarkWorkLong k k'
