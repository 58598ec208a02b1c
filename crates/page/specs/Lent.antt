-- The lists that `detect` is lent, by name.
use Rattle.std.specs.Prelude.{Bool, ◌&&◌, List, [], ℕ, ◌+◌, ◌*◌, leb, Float, length, get_or}
use Rattle.lists.specs.Lists.{every_below}
use Rattle.layout.specs.Sides.{raster_fits}
use Rattle.finding_lists.specs.declared.lent.LentFindings.{LentFindings}
use Rattle.finding_lists.specs.Columns.{Columns, columns_of}
use Rattle.page.specs.declared.lent.LentRules.{LentRules}
use Rattle.page.specs.declared.lent.LentMarks.{LentMarks}

-- Of the rulings, with the sets of pieces, and of the tables, with the sets of printed rulings; the work lists have one entry a piece.
pub record RuleLists : Type 0 where
  pub levelled : List ℕ
  pub rects : List ℕ
  pub directions : List ℕ
  pub contrasts : List Float
  pub printed : List ℕ
  pub faint : List ℕ
  pub piece_members : List ℕ
  pub piece_ends : List ℕ
  pub bounds : List ℕ
  pub rows : List ℕ
  pub columns : List ℕ
  pub rulings : List ℕ
  pub shares : List Float
  pub free : List ℕ
  pub printed_members : List ℕ
  pub printed_ends : List ℕ
  pub numbers : List ℕ
  pub parents : List ℕ
  pub listed : List ℕ
  pub listed_ends : List ℕ
  pub order : List ℕ
  pub keys : List ℕ

-- Of the boxes, with their sets and reading orders, and of the grids; the work lists have one entry a glyph box.
pub record MarkLists : Type 0 where
  pub boxes : List ℕ
  pub marks : List ℕ
  pub coverages : List Float
  pub reading : List ℕ
  pub members : List ℕ
  pub ends : List ℕ
  pub numbers : List ℕ
  pub parents : List ℕ
  pub order : List ℕ
  pub keys : List ℕ

-- All of them, with the lists of the findings.
pub record Lent : Type 0 where
  pub rules : RuleLists
  pub marks : MarkLists
  pub found : Columns

-- What the lists hold that are lent.
abbrev pub rules_of : LentRules → RuleLists
rules_of l =
    record {
      levelled = l.levelled.now;
      rects = l.rects.now;
      directions = l.directions.now;
      contrasts = l.contrasts.now;
      printed = l.printed.now;
      faint = l.faint.now;
      piece_members = l.piece_members.now;
      piece_ends = l.piece_ends.now;
      bounds = l.bounds.now;
      rows = l.rows.now;
      columns = l.columns.now;
      rulings = l.rulings.now;
      shares = l.shares.now;
      free = l.free.now;
      printed_members = l.printed_members.now;
      printed_ends = l.printed_ends.now;
      numbers = l.numbers.now;
      parents = l.parents.now;
      listed = l.listed.now;
      listed_ends = l.listed_ends.now;
      order = l.order.now;
      keys = l.keys.now;
    }

abbrev pub marks_of : LentMarks → MarkLists
marks_of l =
    record {
      boxes = l.boxes.now;
      marks = l.marks.now;
      coverages = l.coverages.now;
      reading = l.reading.now;
      members = l.members.now;
      ends = l.ends.now;
      numbers = l.numbers.now;
      parents = l.parents.now;
      order = l.order.now;
      keys = l.keys.now;
    }

abbrev pub lent : LentRules → LentMarks → LentFindings → Lent
lent rules marks found = record { rules = rules_of rules; marks = marks_of marks; found = columns_of found }

-- Question 14: the levelled raster is exactly width × height; there is room for as many rulings and tables as pieces, as many boxes as glyph boxes,
-- as many findings as both together; each index, member or work list has one entry a piece, or a glyph box.
abbrev pub rulings_fit : ℕ → RuleLists → Bool
rulings_fit n l =
    leb (4 * n) (length l.rects) && leb n (length l.directions) && leb n (length l.contrasts) && leb n (length l.printed)
    && leb n (length l.faint) && leb n (length l.piece_members) && leb n (length l.piece_ends)

abbrev pub tables_fit : ℕ → RuleLists → Bool
tables_fit n l =
    leb (4 * n) (length l.bounds) && leb n (length l.rows) && leb n (length l.columns) && leb n (length l.rulings)
    && leb n (length l.shares) && leb n (length l.free) && leb n (length l.printed_members) && leb n (length l.printed_ends)
    && leb n (length l.numbers)

abbrev pub boxes_fit : ℕ → MarkLists → Bool
boxes_fit m l =
    leb (4 * m) (length l.boxes) && leb m (length l.marks) && leb m (length l.coverages) && leb m (length l.reading)
    && leb m (length l.members) && leb m (length l.ends) && leb m (length l.numbers)

abbrev pub findings_fit : ℕ → Columns → Bool
findings_fit n l =
    leb (4 * n) (length l.rects)
    && every_below 4 (λ k. leb n (length (get_or l.facts k [])))
    && every_below 8 (λ k. leb n (length (get_or l.scores k [])))

abbrev pub work_fits : ℕ → ℕ → RuleLists → MarkLists → Bool
work_fits n m l k =
    leb n (length l.parents) && leb n (length l.listed) && leb n (length l.listed_ends) && leb n (length l.order)
    && leb n (length l.keys) && leb m (length k.parents) && leb m (length k.order) && leb m (length k.keys)

abbrev pub has_room : ℕ → ℕ → ℕ → ℕ → Lent → Bool
has_room w h n m l =
    raster_fits w h (length l.rules.levelled)
    && rulings_fit n l.rules
    && tables_fit n l.rules
    && boxes_fit m l.marks
    && findings_fit (n + m) l.found
    && work_fits n m l.rules l.marks
