-- What `detect` promises: its number, every lent list for accepted and refused input, its counts, and the three demands.
use Rattle.std.specs.Prelude.{◌≡◌, cond, ◌⊎◌, map, eqb, length}
use Rattle.lists.specs.Lists.{concat, written}
use Rattle.sets.specs.Listing.{ends_from, ReadAs}
use Rattle.questions.specs.Questions.{first_missed}
use Rattle.layout.specs.Level.{Levelling}
use Rattle.params.specs.Limits.{IsLimit, across_limit, gap_limit, align_setting, align_limit}
use Rattle.ink.specs.Ink.{ink_at}
use Rattle.segments.specs.Call as Segments
use Rattle.tables.specs.Call as Tables
use Rattle.glyph_tests.specs.Limits.{box_limits_of}
use Rattle.box_lists.specs.Boxes.{EveryBox}
use Rattle.boxes.specs.Call.{page_places}
use Rattle.reading_order.specs.Reading.{reading_order}
use Rattle.grids.specs.Call as Grids
use Rattle.evidence.specs.Finding.{row_of}
use Rattle.finding_lists.specs.Columns.{AllWritten}
use Rattle.findings.specs.Pairing.{FindingsPaired}
use Rattle.page.specs.declared.answer.Answer.{Answer}
use Rattle.page.specs.declared.counts.Counts.{Counts}
use Rattle.page.specs.Page as Page
use Rattle.page.specs.Page.{Page}
use Rattle.page.specs.Lent.{RuleLists, MarkLists, Lent}
use Rattle.page.specs.Questions.{all_questions}
use Rattle.page.specs.Answer.{accepted, refusal}

-- Each count is the length of its list.
abbrev pub counts_of : Page → Counts
counts_of g =
    record {
      rulings = length (Page.piece_sets g);
      printed = length (Page.printed g);
      faint = length (Page.faint g);
      tables = length (Page.table_numbers g);
      boxes = length (Page.boxes g);
      grids = length (Page.grid_numbers g);
      printed_sets = length (Page.printed_sets g);
      free = length (Page.free g);
      box_sets = length (Page.box_sets g);
    }

-- What an accepted page leaves: each list is its definition of the page, written from the front, and places past it keep their content. So what
-- a lent list holds afterwards is a function of the page and of what it held: demand 1.
pub record RuleAnswers (g : Page) (l l' : RuleLists) : Type 0 where
  pub rects : l'.rects ≡ written (Page.rects g) l.rects
  pub directions : l'.directions ≡ written (Page.directions g) l.directions
  pub contrasts : l'.contrasts ≡ written (Page.contrasts g) l.contrasts
  pub printed : l'.printed ≡ written (Page.printed g) l.printed
  pub faint : l'.faint ≡ written (Page.faint g) l.faint
  pub piece_members : l'.piece_members ≡ written (concat (Page.piece_sets g)) l.piece_members
  pub piece_ends : l'.piece_ends ≡ written (ends_from 0 (Page.piece_sets g)) l.piece_ends
  pub bounds : l'.bounds ≡ written (Page.bounds g) l.bounds
  pub rows : l'.rows ≡ written (Page.rows g) l.rows
  pub columns : l'.columns ≡ written (Page.columns g) l.columns
  pub rulings : l'.rulings ≡ written (Page.rulings g) l.rulings
  pub shares : l'.shares ≡ written (Page.shares g) l.shares
  pub free : l'.free ≡ written (Page.free g) l.free
  pub printed_members : l'.printed_members ≡ written (concat (Page.printed_sets g)) l.printed_members
  pub printed_ends : l'.printed_ends ≡ written (ends_from 0 (Page.printed_sets g)) l.printed_ends
  pub numbers : l'.numbers ≡ written (Page.table_numbers g) l.numbers

pub record MarkAnswers (g : Page) (l l' : MarkLists) : Type 0 where
  pub boxes : l'.boxes ≡ written (Page.box_rects g) l.boxes
  pub marks : l'.marks ≡ written (Page.marks g) l.marks
  pub coverages : l'.coverages ≡ written (Page.coverages g) l.coverages
  pub reading : l'.reading ≡ written (Page.reading g) l.reading
  pub members : l'.members ≡ written (concat (Page.box_sets g)) l.members
  pub ends : l'.ends ≡ written (ends_from 0 (Page.box_sets g)) l.ends
  pub numbers : l'.numbers ≡ written (Page.grid_numbers g) l.numbers

pub record Answers (g : Page) (l l' : Lent) : Type 0 where
  pub rules : RuleAnswers g l.rules l'.rules
  pub marks : MarkAnswers g l.marks l'.marks
  pub found : AllWritten (map row_of (Page.findings g)) l.found l'.found

-- The limits are the rounded products, not below 0.
pub record Limits (g : Page) : Type 0 where
  pub across : IsLimit g.settings.merge_across_xh g.xheight
  pub gap : IsLimit g.settings.merge_gap_xh g.xheight
  pub join : IsLimit g.settings.join_tol_xh g.xheight
  pub line : IsLimit g.settings.line_cluster_xh g.xheight
  pub align : IsLimit (align_setting g.settings) g.xheight

-- Demand 3, of the lists as they are read. Of pieces: a set is listed exactly when it is closed, and then once; ruling k has the smallest rectangle
-- around set k and the direction of its pieces. Of printed rulings: each closed set is listed once, and is one table or whole in the free list.
-- Every glyph box that is not passed over is a box. Of boxes: each closed set is listed once, and is a grid exactly when it reaches the minimum.
-- Every table and every grid has exactly one finding, and no finding of these kinds has none.
pub record Demand3 (g : Page) (l' : Lent) : Type 0 where
  pub pieces : Segments.Demand3 g.pieces (across_limit g.settings g.xheight) (gap_limit g.settings g.xheight) (Page.piece_sets g)
  pub pieces_read : ReadAs (Page.piece_sets g) l'.rules.piece_members l'.rules.piece_ends (length (Page.piece_sets g))
  pub printed : Tables.Demand3 (Page.rects g) (Page.directions g) (Page.printed g) (Page.table_limits g)
  pub printed_read : ReadAs (Page.printed_sets g) l'.rules.printed_members l'.rules.printed_ends (length (Page.printed_sets g))
  pub every_box :
      EveryBox (ink_at g.sides.w g.ink) (box_limits_of g.dpi g.xheight g.settings) g.glyphs
      (page_places g.sides.w g.dpi g.xheight g.ink g.glyphs g.settings) (Page.boxes g)
  pub boxes : Grids.Demand3 (Page.box_rects g) (align_limit g.settings g.xheight) g.settings.grid_min_boxes
  pub boxes_read : ReadAs (Page.box_sets g) l'.marks.members l'.marks.ends (length (Page.box_sets g))
  pub reading_read : ReadAs (map (reading_order (Page.box_rects g)) (Page.box_sets g)) l'.marks.reading l'.marks.ends (length (Page.box_sets g))
  pub findings :
      FindingsPaired (Page.scan g) g.dpi (Page.ruled g) (Page.printed g) (Page.faint g) (Page.tabled g) (Page.free g) (Page.boxed g)

-- The rulings stand in document 01's order, and each listed contrast is within 2^-45 of the exact one.
pub record RulingsRight (g : Page) (l' : Lent) : Type 0 where
  pub order : Segments.InOrder g.pieces (Page.piece_sets g)
  pub near : Segments.AllNear (Page.raster g) g.sides.w g.sides.h g.pieces (Page.piece_sets g) l'.rules.contrasts

-- What a call of `detect` promises: the number of the first missed question; the counts, all 0 where one is missed; a page that misses one of 1 to
-- 14 leaves every list, work lists too; else the levelled raster holds the levelling, and where 15 is not missed either, the lists hold the answers.
pub record Detect (g : Page) (l l' : Lent) (a : Answer) : Type 0 where
  pub number : a.number ≡ first_missed (all_questions g l)
  pub counts : a ≡ cond (eqb a.number 0) (accepted (counts_of g) (length (Page.findings g))) (refusal a.number)
  pub refused : (a.number ≡ 0 → ⊥) → (a.number ≡ 15 → ⊥) → l' ≡ l
  pub raster : (a.number ≡ 0) ⊎ (a.number ≡ 15)
      → (l'.rules.levelled ≡ Page.raster g) × Levelling g.sides g.gray g.shear g.shear_x l'.rules.levelled
  pub answers : a.number ≡ 0 → Answers g l l'
  pub limits : a.number ≡ 0 → Limits g
  pub rulings : a.number ≡ 0 → RulingsRight g l'
  pub demand3 : a.number ≡ 0 → Demand3 g l'
