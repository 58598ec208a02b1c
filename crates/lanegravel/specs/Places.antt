-- The lists that C lends are where they were: a call writes into them and exchanges none.
use Rattle.std.specs.Prelude.{◌≡◌}
use Rattle.lanegravel.specs.declared.detect_lists.Bytes.{Bytes}
use Rattle.lanegravel.specs.declared.detect_lists.Words.{Words}
use Rattle.lanegravel.specs.declared.detect_lists.Keys.{Keys}
use Rattle.lanegravel.specs.declared.detect_lists.Rects.{Rects}
use Rattle.lanegravel.specs.declared.detect_lists.Tags.{Tags}
use Rattle.lanegravel.specs.declared.detect_lists.Values.{Values}
use Rattle.lanegravel.specs.declared.detect_lists.Chosen.{Chosen}
use Rattle.lanegravel.specs.declared.detect_lists.Rest.{Rest}
use Rattle.lanegravel.specs.declared.detect_lists.Sets.{Sets}
use Rattle.lanegravel.specs.declared.detect_lists.Numbers.{Numbers}
use Rattle.lanegravel.specs.declared.detect_lists.Work.{Work}
use Rattle.lanegravel.specs.declared.detect_lists.Facts.{Facts}
use Rattle.lanegravel.specs.declared.detect_lists.Scores.{Scores}

-- Three records for three structs, which stand apart since C's functions take none with a type parameter.
pub record SameBytes (l l' : Bytes) : Type 0 where
  pub list : l'.list.ref_ptr ≡ l.list.ref_ptr

pub record SameWords (l l' : Words) : Type 0 where
  pub list : l'.list.ref_ptr ≡ l.list.ref_ptr

pub record SameKeys (l l' : Keys) : Type 0 where
  pub list : l'.list.ref_ptr ≡ l.list.ref_ptr

pub record SameRects (l l' : Rects) : Type 0 where
  pub rulings : l'.rulings.ref_ptr ≡ l.rulings.ref_ptr
  pub boxes : l'.boxes.ref_ptr ≡ l.boxes.ref_ptr

pub record SameTags (l l' : Tags) : Type 0 where
  pub directions : l'.directions.ref_ptr ≡ l.directions.ref_ptr
  pub marks : l'.marks.ref_ptr ≡ l.marks.ref_ptr

pub record SameValues (l l' : Values) : Type 0 where
  pub contrasts : l'.contrasts.ref_ptr ≡ l.contrasts.ref_ptr
  pub shares : l'.shares.ref_ptr ≡ l.shares.ref_ptr
  pub coverages : l'.coverages.ref_ptr ≡ l.coverages.ref_ptr

pub record SameChosen (l l' : Chosen) : Type 0 where
  pub printed : l'.printed.ref_ptr ≡ l.printed.ref_ptr
  pub reading : l'.reading.ref_ptr ≡ l.reading.ref_ptr

pub record SameRest (l l' : Rest) : Type 0 where
  pub free : l'.free.ref_ptr ≡ l.free.ref_ptr
  pub faint : l'.faint.ref_ptr ≡ l.faint.ref_ptr

pub record SameSets (l l' : Sets) : Type 0 where
  pub pieces : l'.pieces.ref_ptr ≡ l.pieces.ref_ptr
  pub printed : l'.printed.ref_ptr ≡ l.printed.ref_ptr
  pub boxes : l'.boxes.ref_ptr ≡ l.boxes.ref_ptr

pub record SameNumbers (l l' : Numbers) : Type 0 where
  pub tables : l'.tables.ref_ptr ≡ l.tables.ref_ptr
  pub grids : l'.grids.ref_ptr ≡ l.grids.ref_ptr

pub record SameWork (l l' : Work) : Type 0 where
  pub pieces : l'.pieces.ref_ptr ≡ l.pieces.ref_ptr
  pub boxes : l'.boxes.ref_ptr ≡ l.boxes.ref_ptr

pub record SameFacts (l l' : Facts) : Type 0 where
  pub kinds : l'.kinds.ref_ptr ≡ l.kinds.ref_ptr
  pub a : l'.a.ref_ptr ≡ l.a.ref_ptr
  pub b : l'.b.ref_ptr ≡ l.b.ref_ptr
  pub c : l'.c.ref_ptr ≡ l.c.ref_ptr

pub record SameScores (l l' : Scores) : Type 0 where
  pub log_odds : l'.log_odds.ref_ptr ≡ l.log_odds.ref_ptr
  pub first_values : l'.first_values.ref_ptr ≡ l.first_values.ref_ptr
  pub first_thresholds : l'.first_thresholds.ref_ptr ≡ l.first_thresholds.ref_ptr
  pub first_llrs : l'.first_llrs.ref_ptr ≡ l.first_llrs.ref_ptr
  pub second_values : l'.second_values.ref_ptr ≡ l.second_values.ref_ptr
  pub second_thresholds : l'.second_thresholds.ref_ptr ≡ l.second_thresholds.ref_ptr
  pub second_llrs : l'.second_llrs.ref_ptr ≡ l.second_llrs.ref_ptr
  pub lengths : l'.lengths.ref_ptr ≡ l.lengths.ref_ptr
