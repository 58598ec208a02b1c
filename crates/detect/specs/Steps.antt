-- What `detect` does once its questions are passed; none of it is needed to read its contract.
use Rattle.std.specs.Prelude.{◌≡◌, Bool, true, map, ℕ, length}
use Rattle.questions.specs.Questions.{first_missed}
use Rattle.sets.specs.Listing.{ReadAs}
use Rattle.segments.specs.Call.{AllNear}
use Rattle.reading_order.specs.Reading.{reading_order}
use Rattle.findings.specs.Steps.{PageFound}
use Rattle.page.specs.declared.counts.Counts.{Counts}
use Rattle.page.specs.Page as Page
use Rattle.page.specs.Page.{Page}
use Rattle.page.specs.Lent.{RuleLists, MarkLists, Lent}
use Rattle.page.specs.Questions.{given_questions, roomy}
use Rattle.page.specs.Call.{counts_of, RuleAnswers, MarkAnswers}

-- The page passed questions 1 to 14.
pub record Passed (g : Page) (l : Lent) : Type 0 where
  pub given : first_missed (given_questions g) ≡ 0
  pub room : roomy g l ≡ true

-- The lists hold the page's rulings and tables, and its boxes and grids, and each set is given back.
pub record RulesHeld (g : Page) (r r' : RuleLists) : Type 0 where
  pub levelled : r'.levelled ≡ Page.raster g
  pub answers : RuleAnswers g r r'
  pub pieces_read : ReadAs (Page.piece_sets g) r'.piece_members r'.piece_ends (length (Page.piece_sets g))
  pub printed_read : ReadAs (Page.printed_sets g) r'.printed_members r'.printed_ends (length (Page.printed_sets g))
  pub near : AllNear (Page.raster g) g.sides.w g.sides.h g.pieces (Page.piece_sets g) r'.contrasts

pub record MarksHeld (g : Page) (k k' : MarkLists) : Type 0 where
  pub answers : MarkAnswers g k k'
  pub boxes_read : ReadAs (Page.box_sets g) k'.members k'.ends (length (Page.box_sets g))
  pub reading_read : ReadAs (map (reading_order (Page.box_rects g)) (Page.box_sets g)) k'.reading k'.ends (length (Page.box_sets g))

-- The lists hold the answers and the findings, and `finite` is whether every evidence number is.
pub record Found (g : Page) (l l' : Lent) (n : Counts) (findings : ℕ) (finite : Bool) : Type 0 where
  pub counts : n ≡ counts_of g
  pub rules : RulesHeld g l.rules l'.rules
  pub marks : MarksHeld g l.marks l'.marks
  pub found : PageFound (Page.scan g) g.dpi (Page.ruled g) (Page.printed g) (Page.faint g) (Page.tabled g) (Page.free g) (Page.boxed g) l.found l'.found findings finite
