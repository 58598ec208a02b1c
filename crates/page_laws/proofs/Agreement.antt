-- Each smaller call's answers are the page's own, by their definitions; of `tables` since what it finds hangs on the printed rulings alone.
use mathlib.Core.Path.{◌≡◌, sym, ap, ◌∙◌}
use mathlib.Core.Logic.{inl}
use mathlib.Core.List.{List}
use Prim.Native.Nat.{ℕ}
use lib.ListN.{length, take, drop}
use lib.Seq.{take-append_seam}
use Rattle.lists.specs.Lists.{concat, written}
use Rattle.sets.specs.Listing.{ends_from}
use Rattle.level_gray.specs.Call.{LevelGray}
use Rattle.segments.specs.declared.segments.Answer as RulingsAnswer
use Rattle.ruling_questions.specs.Lent as RulingLists
use Rattle.segments.specs.Call as Segments
use Rattle.tables.specs.declared.Answer as TablesAnswer
use Rattle.tables.specs.Call as Tables
use Rattle.boxes.specs.declared.Answer as BoxesAnswer
use Rattle.boxes.specs.Call as Boxes
use Rattle.grids.specs.declared.Answer as GridsAnswer
use Rattle.grids.specs.Call as Grids
use Rattle.grids.specs.Lent as GridLists
use Rattle.page.specs.declared.answer.Answer.{Answer}
use Rattle.page.specs.Page as Page
use Rattle.page.specs.Page.{Page}
use Rattle.page.specs.Lent.{Lent}
use Rattle.page.specs.Call.{Detect}
use Rattle.page_laws.specs.Agreement.{for_segments, for_tables, for_boxes, for_grids, Both, SameRulings, SameTables, SameBoxes, SameGrids}
use Rattle.page_laws.proofs.Printed.{own_sets, own_numbers, own_free, own_bounds, own_rows, own_columns, own_rulings, own_shares}

-- two lists that xs was written to from the front begin with it
both : {A : Type 0} (xs l m : List A) {l' m' : List A} → l' ≡ written xs l → m' ≡ written xs m → Both xs l' m'
both xs l m e f =
    record {
      first = ap (take (length xs)) e ∙ take-append_seam xs (drop (length xs) l);
      second = ap (take (length xs)) f ∙ take-append_seam xs (drop (length xs) m);
    }

-- the same, where the second list's answers have another name
both_named : {A : Type 0} (xs ys l m : List A) → ys ≡ xs → {l' m' : List A} → l' ≡ written xs l → m' ≡ written ys m → Both xs l' m'
both_named xs ys l m h e f = both xs l m e (f ∙ ap (λ (zs : List _). written zs m) h)

module _ {g : Page} {l l' : Lent} {a : Answer} (D : Detect g l l' a) (z : a.number ≡ 0) where
  pub same_raster : {out out' : List ℕ} {q : ℕ} → LevelGray g.sides g.gray g.shear g.shear_x out out' q → q ≡ 0 → out' ≡ l'.rules.levelled
  same_raster L y = L.answers y ∙ sym (D.raster (inl z)).0

  pub same_rulings : {s s' : RulingLists.Lent} {r : RulingsAnswer.Answer} → Segments.Segments (for_segments g) s s' r → r.number ≡ 0 → SameRulings g l' s'
  same_rulings {s} S y =
      let x = (D.answers z).rules in
      let w = S.answers y in
      record {
        rects = both (Page.rects g) l.rules.rects s.rects x.rects w.rects;
        directions = both (Page.directions g) l.rules.directions s.directions x.directions w.directions;
        contrasts = both (Page.contrasts g) l.rules.contrasts s.contrasts x.contrasts w.contrasts;
        members = both (concat (Page.piece_sets g)) l.rules.piece_members s.piece_members x.piece_members w.piece_members;
        ends = both (ends_from 0 (Page.piece_sets g)) l.rules.piece_ends s.piece_ends x.piece_ends w.piece_ends;
      }

  pub same_boxes : {b b' : Boxes.Lent} {r : BoxesAnswer.Answer} → Boxes.Boxes (for_boxes g) b b' r → r.number ≡ 0 → SameBoxes g l' b'
  same_boxes {b} B y =
      let x = (D.answers z).marks in
      let w = B.answers y in
      record { rects = both (Page.box_rects g) l.marks.boxes b.rects x.boxes w.rects; marks = both (Page.marks g) l.marks.marks b.marks x.marks w.marks; coverages = both (Page.coverages g) l.marks.coverages b.coverages x.coverages w.coverages }

  pub same_grids : {q q' : GridLists.Lent} {r : GridsAnswer.Answer} → Grids.Grids (for_grids g) q q' r → r.number ≡ 0 → SameGrids g l' q'
  same_grids {q} G y =
      let x = (D.answers z).marks in
      let w = G.answers y in
      record {
        members = both (concat (Page.box_sets g)) l.marks.members q.members x.members w.members;
        ends = both (ends_from 0 (Page.box_sets g)) l.marks.ends q.ends x.ends w.ends;
        reading = both (Page.reading g) l.marks.reading q.reading x.reading w.reading;
        numbers = both (Page.grid_numbers g) l.marks.numbers q.numbers x.numbers w.numbers;
      }

  pub same_tables : {t t' : Tables.Lent} {r : TablesAnswer.Answer} → Tables.Tables (for_tables g) t t' r → r.number ≡ 0 → SameTables g l' t'
  same_tables {t} T y =
      let x = (D.answers z).rules in
      let w = T.answers y in
      let R = Page.rects g in
      let E = Page.directions g in
      let P = Page.printed g in
      let L = Page.table_limits g in
      record {
        members = both_named (concat (Page.printed_sets g)) _ l.rules.printed_members t.printed_members (ap concat (own_sets R E P L)) x.printed_members w.printed_members;
        ends = both_named (ends_from 0 (Page.printed_sets g)) _ l.rules.printed_ends t.printed_ends (ap (ends_from 0) (own_sets R E P L)) x.printed_ends w.printed_ends;
        numbers = both_named (Page.table_numbers g) _ l.rules.numbers t.numbers (own_numbers R E P L) x.numbers w.numbers;
        bounds = both_named (Page.bounds g) _ l.rules.bounds t.bounds (own_bounds R E P L) x.bounds w.bounds;
        rows = both_named (Page.rows g) _ l.rules.rows t.rows (own_rows R E P L) x.rows w.rows;
        columns = both_named (Page.columns g) _ l.rules.columns t.columns (own_columns R E P L) x.columns w.columns;
        rulings = both_named (Page.rulings g) _ l.rules.rulings t.rulings (own_rulings R E P L) x.rulings w.rulings;
        shares = both_named (Page.shares g) _ l.rules.shares t.shares (own_shares R E P L) x.shares w.shares;
        free = both_named (Page.free g) _ l.rules.free t.free (own_free R E P L) x.free w.free;
      }
