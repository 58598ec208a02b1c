-- Findings: what their stage asks, and that what it leaves are the page's findings.
use mathlib.Core.Path.{◌≡◌, refl, sym, subst, transport}
use mathlib.Core.Bool.{Bool, true}
use Prim.Native.Nat.{ℕ, ◌+◌, ◌*◌, ◌≤◌}
use native.Mathlib.Omega.{arith}
use lib.ListN.{length}
use Rattle.rects.specs.Rects.{count}
use Rattle.finding_lists.specs.Columns.{Columns}
use Rattle.finding_lists.proofs.Storing.{room_for_fewer}
use Rattle.findings.specs.Made.{free_places, free_count_of, folds}
use Rattle.findings.specs.Steps.{AllGiven, TablesGiven, NumbersGiven, GridsGiven, FindRoom, PageFound}
use Rattle.page.specs.Page as Page
use Rattle.page.specs.Page.{Page}
use Rattle.page.specs.declared.counts.Counts.{Counts}
use Rattle.page.specs.Lent.{RuleLists, MarkLists, Lent}
use Rattle.page.specs.Questions.{roomy}
use Rattle.page.specs.Steps.{Room}
use Rattle.page.specs.Call.{counts_of}
use Rattle.page_findings.specs.Sources.{Sources, boxes_of, lists_of, sources}
use Rattle.page_findings.specs.Steps.{Long, Ready, ReadyIn, Left, work_of, KeptRules, KeptMarks}
use Rattle.ruled_laws.proofs.Ruled as Ruled
use Rattle.boxed_laws.proofs.Boxed as Boxed
use Rattle.boxed_laws.proofs.Room.{room_says}
use Rattle.read_page.specs.declared.rules.Counts as Rules
use Rattle.read_page.specs.declared.marks.Counts as Marks
use Rattle.read_page.specs.Steps.{RulesDone, MarksDone}
use Rattle.detect.specs.Steps.{Found}
use Rattle.read_page.proofs.Known.{Known}
use Rattle.read_page.proofs.Ruled.{front, still}

module _ (g : Page) (K : Known g) (l : Lent) (Q : Room g.sides.w g.sides.h (count g.pieces) (count g.glyphs) l) {r : RuleLists} {k : MarkLists} {rn : Rules.Counts} {kn : Marks.Counts} (A : RulesDone g l.rules r rn) (B : MarksDone g l.marks k kn) where
  -- the laws of the page's rulings and boxes
  ruled_few : length (Page.piece_sets g) ≤ count g.pieces
  ruled_few = Ruled.sets_few g K.few_pieces K.sides.w_most K.sides.h_most K.pieces

  both : length (Page.printed g) + length (Page.faint g) ≡ length (Page.piece_sets g)
  both = Ruled.printed_few g K.few_pieces K.sides.w_most K.sides.h_most K.pieces

  tables_few : length (Page.table_numbers g) ≤ length (Page.printed g)
  tables_few = Ruled.tables_few g K.few_pieces K.sides.w_most K.sides.h_most K.pieces

  rects_long : length (Page.rects g) ≡ 4 * length (Page.piece_sets g)
  rects_long = Ruled.rects_long g K.few_pieces K.sides.w_most K.sides.h_most K.pieces

  directions_long : length (Page.directions g) ≡ length (Page.piece_sets g)
  directions_long = Ruled.directions_long g K.few_pieces K.sides.w_most K.sides.h_most K.pieces

  contrasts_long : length (Page.contrasts g) ≡ length (Page.piece_sets g)
  contrasts_long = Ruled.contrasts_long g K.few_pieces K.sides.w_most K.sides.h_most K.pieces

  bounds_long : length (Page.bounds g) ≡ 4 * length (Page.table_numbers g)
  bounds_long = Ruled.bounds_long g K.few_pieces K.sides.w_most K.sides.h_most K.pieces

  rows_long : length (Page.rows g) ≡ length (Page.table_numbers g)
  rows_long = Ruled.rows_long g K.few_pieces K.sides.w_most K.sides.h_most K.pieces

  columns_long : length (Page.columns g) ≡ length (Page.table_numbers g)
  columns_long = Ruled.columns_long g K.few_pieces K.sides.w_most K.sides.h_most K.pieces

  rulings_long : length (Page.rulings g) ≡ length (Page.table_numbers g)
  rulings_long = Ruled.rulings_long g K.few_pieces K.sides.w_most K.sides.h_most K.pieces

  shares_long : length (Page.shares g) ≡ length (Page.table_numbers g)
  shares_long = Ruled.shares_long g K.few_pieces K.sides.w_most K.sides.h_most K.pieces

  free_few : length (Page.free g) ≤ length (Page.printed g)
  free_few = Ruled.free_few g K.few_pieces K.sides.w_most K.sides.h_most K.pieces

  boxes_long : length (Page.box_rects g) ≡ 4 * length (Page.boxes g)
  boxes_long = Boxed.rects_long g K.few_glyphs B.few B.picture B.below

  marks_long : length (Page.marks g) ≡ length (Page.boxes g)
  marks_long = Boxed.marks_long g K.few_glyphs B.few B.picture B.below

  coverages_long : length (Page.coverages g) ≡ length (Page.boxes g)
  coverages_long = Boxed.coverages_long g K.few_glyphs B.few B.picture B.below

  grids_few : length (Page.grid_numbers g) ≤ length (Page.boxes g)
  grids_few = Boxed.grids_few g K.few_glyphs B.few B.picture B.below

  -- each list holds what was found
  long : Long (counts_of g) (lists_of r k)
  long =
      record {
        rects = omega (arith, ruled_few, still (Page.rects g) l.rules.rects A.answers.rects (omega (arith, rects_long, ruled_few, Q.rules.rects)), Q.rules.rects);
        directions = omega (arith, ruled_few, still (Page.directions g) l.rules.directions A.answers.directions (omega (arith, directions_long, ruled_few, Q.rules.directions)), Q.rules.directions);
        contrasts = omega (arith, ruled_few, still (Page.contrasts g) l.rules.contrasts A.answers.contrasts (omega (arith, contrasts_long, ruled_few, Q.rules.contrasts)), Q.rules.contrasts);
        printed = omega (arith, ruled_few, both, still (Page.printed g) l.rules.printed A.answers.printed (omega (arith, both, ruled_few, Q.rules.printed)), Q.rules.printed);
        faint = omega (arith, ruled_few, both, still (Page.faint g) l.rules.faint A.answers.faint (omega (arith, both, ruled_few, Q.rules.faint)), Q.rules.faint);
        bounds = omega (arith, ruled_few, both, tables_few, still (Page.bounds g) l.rules.bounds A.answers.bounds (omega (arith, bounds_long, tables_few, both, ruled_few, Q.rules.bounds)), Q.rules.bounds);
        rows = omega (arith, ruled_few, both, tables_few, still (Page.rows g) l.rules.rows A.answers.rows (omega (arith, rows_long, tables_few, both, ruled_few, Q.rules.rows)), Q.rules.rows);
        columns = omega (arith, ruled_few, both, tables_few, still (Page.columns g) l.rules.columns A.answers.columns (omega (arith, columns_long, tables_few, both, ruled_few, Q.rules.columns)), Q.rules.columns);
        rulings = omega (arith, ruled_few, both, tables_few, still (Page.rulings g) l.rules.rulings A.answers.rulings (omega (arith, rulings_long, tables_few, both, ruled_few, Q.rules.rulings)), Q.rules.rulings);
        shares = omega (arith, ruled_few, both, tables_few, still (Page.shares g) l.rules.shares A.answers.shares (omega (arith, shares_long, tables_few, both, ruled_few, Q.rules.shares)), Q.rules.shares);
        free = omega (arith, ruled_few, both, free_few, still (Page.free g) l.rules.free A.answers.free (omega (arith, free_few, both, ruled_few, Q.rules.free)), Q.rules.free);
        boxes = omega (arith, B.few, still (Page.box_rects g) l.marks.boxes B.answers.boxes (omega (arith, boxes_long, B.few, Q.marks.boxes)), Q.marks.boxes);
        marks = omega (arith, B.few, still (Page.marks g) l.marks.marks B.answers.marks (omega (arith, marks_long, B.few, Q.marks.marks)), Q.marks.marks);
        coverages = omega (arith, B.few, still (Page.coverages g) l.marks.coverages B.answers.coverages (omega (arith, coverages_long, B.few, Q.marks.coverages)), Q.marks.coverages);
        numbers = omega (arith, grids_few, B.few, still (Page.grid_numbers g) l.marks.numbers B.answers.numbers (omega (arith, grids_few, B.few, Q.marks.numbers)), Q.marks.numbers);
      }

  abbrev made_from : Sources
  made_from = sources g (counts_of g) (lists_of r k)

  -- the front parts are the page's lists
  ruled_is : made_from.ruled ≡ Page.ruled g
  ruled_is =
      let r = front (Page.rects g) l.rules.rects A.answers.rects (sym rects_long) in
      let d = front (Page.directions g) l.rules.directions A.answers.directions (sym directions_long) in
      let c = front (Page.contrasts g) l.rules.contrasts A.answers.contrasts (sym contrasts_long) in
      λ i. record { rects = r i; directions = d i; contrasts = c i }

  printed_is : made_from.printed ≡ Page.printed g
  printed_is = front (Page.printed g) l.rules.printed A.answers.printed refl

  faint_is : made_from.faint ≡ Page.faint g
  faint_is = front (Page.faint g) l.rules.faint A.answers.faint refl

  tabled_is : made_from.tabled ≡ Page.tabled g
  tabled_is =
      let b = front (Page.bounds g) l.rules.bounds A.answers.bounds (sym bounds_long) in
      let r = front (Page.rows g) l.rules.rows A.answers.rows (sym rows_long) in
      let c = front (Page.columns g) l.rules.columns A.answers.columns (sym columns_long) in
      let u = front (Page.rulings g) l.rules.rulings A.answers.rulings (sym rulings_long) in
      let s = front (Page.shares g) l.rules.shares A.answers.shares (sym shares_long) in
      λ i. record { bounds = b i; rows = r i; columns = c i; rulings = u i; shares = s i }

  free_is : made_from.free ≡ Page.free g
  free_is = front (Page.free g) l.rules.free A.answers.free refl

  boxed_is : boxes_of made_from.boxed ≡ Page.boxed g
  boxed_is =
      let b = front (Page.box_rects g) l.marks.boxes B.answers.boxes (sym boxes_long) in
      let m = front (Page.marks g) l.marks.marks B.answers.marks (sym marks_long) in
      let c = front (Page.coverages g) l.marks.coverages B.answers.coverages (sym coverages_long) in
      let f = Boxed.read_function (Page.box_sets g) k.members k.ends (length (Page.box_sets g)) refl B.boxes_read in
      let n = front (Page.grid_numbers g) l.marks.numbers B.answers.numbers refl in
      λ i. record { rects = b i; marks = m i; coverages = c i; set = f i; grids = n i }

  -- what is left are the page's findings
  pub left : {c c' : Columns} {n : ℕ} {finite : Bool} → Left made_from c c' n finite
      → PageFound (Page.scan g) g.dpi (Page.ruled g) (Page.printed g) (Page.faint g) (Page.tabled g) (Page.free g) (Page.boxed g) c c' n finite
  left {c} {c'} {n} {finite} L =
      transport (λ i. PageFound (Page.scan g) g.dpi (ruled_is i) (printed_is i) (faint_is i) (tabled_is i) (free_is i) (boxed_is i) c c' n finite) L

  first : count (Page.bounds g) + free_count_of g.settings (free_places (Page.printed g) (Page.free g)) + length (folds g.settings g.dpi (Page.rects g) (Page.directions g) (Page.faint g))
      ≤ length (Page.piece_sets g)
  first = Ruled.first_few g K.few_pieces K.sides.w_most K.sides.h_most K.pieces K.rules

  room : FindRoom g.settings g.dpi (Page.rects g) (Page.directions g) (Page.printed g) (Page.faint g) (Page.bounds g) (Page.free g) (Page.grid_numbers g)
      r.parents r.order r.keys k.keys r.listed k.parents r.listed_ends k.order l.found
  room =
      record {
        places_long = omega (arith, free_few, both, ruled_few, Q.rules.parents, A.work_long.parents);
        folds_long = omega (arith, both, ruled_few, Q.rules.order, A.work_long.order);
        both = record {
          ranking = record {
            few = omega (arith, first, ruled_few, K.few_pieces, grids_few, B.few, K.few_glyphs);
            keys_long = omega (arith, first, ruled_few, Q.rules.keys, A.work_long.keys);
            order_long = omega (arith, first, ruled_few, Q.rules.listed, A.work_long.listed);
            ranks_long = omega (arith, first, ruled_few, Q.rules.listed_ends, A.work_long.listed_ends);
            grid_keys_long = omega (arith, grids_few, B.few, Q.marks.keys, B.work_long.keys);
            grid_order_long = omega (arith, grids_few, B.few, Q.marks.parents, B.work_long.parents);
            grid_ranks_long = omega (arith, grids_few, B.few, Q.marks.order, B.work_long.order);
          };
          room = room_for_fewer (omega (arith, first, ruled_few, grids_few, B.few)) Q.found;
        };
      }

  pub find_ready : Ready made_from (work_of r k) l.found
  find_ready =
      let r' = sym ruled_is in
      let p = sym printed_is in
      let f = sym faint_is in
      let t = sym tabled_is in
      let e = sym free_is in
      let b = sym boxed_is in
      record {
        mapping = record { sheared = K.sheared; paged = λ q I. (K.sides.pw_some, K.sides.ph_some) };
        rules = K.rules;
        printed_given = transport (λ i. AllGiven g.sides.w g.sides.h (r' i).rects (r' i).directions (r' i).contrasts (p i)) (Ruled.printed_given g K.few_pieces K.sides.w_most K.sides.h_most K.pieces);
        faint_given = transport (λ i. AllGiven g.sides.w g.sides.h (r' i).rects (r' i).directions (r' i).contrasts (f i)) (Ruled.faint_given g K.few_pieces K.sides.w_most K.sides.h_most K.pieces);
        tables_given = transport (λ i. TablesGiven g.sides.w g.sides.h (t i).bounds (t i).rows (t i).columns (t i).rulings (t i).shares) (Ruled.tables_given g K.few_pieces K.sides.w_most K.sides.h_most K.pieces);
        free_given = transport (λ i. NumbersGiven (p i) (e i)) (Ruled.free_given g K.few_pieces K.sides.w_most K.sides.h_most K.pieces);
        grids_given = transport (λ i. GridsGiven g.sides.w g.sides.h (b i).rects (b i).marks (b i).coverages (b i).set (b i).grids) (Boxed.grids_given g K.few_glyphs B.few B.picture B.below);
        room = transport (λ i. FindRoom g.settings g.dpi (r' i).rects (r' i).directions (p i) (f i) (t i).bounds (e i) (b i).grids r.parents r.order r.keys k.keys r.listed k.parents r.listed_ends k.order l.found) room;
      }

  module _ {n : Counts} (e : n ≡ counts_of g) where
    pub ready : ReadyIn g n (lists_of r k) (work_of r k) l.found
    ready = subst (λ (m : Counts). ReadyIn g m (lists_of r k) (work_of r k) l.found) (sym e) (record { long = long; ready = find_ready })

    -- the findings leave the other lists as they were
    pub finish : {r' : RuleLists} {k' : MarkLists} {c' : Columns} {m : ℕ} {finite : Bool} → KeptRules r r' → KeptMarks k k' → Left (sources g n (lists_of r k)) l.found c' m finite
        → Found g l (record { rules = r'; marks = k'; found = c' }) n m finite
    finish {c' = c'} {m} {finite} R M L =
        record {
          counts = e;
          rules = rw R (record {
            levelled = A.levelled;
            answers = let a = A.answers in record { rects = a.rects; directions = a.directions; contrasts = a.contrasts; printed = a.printed; faint = a.faint; piece_members = a.piece_members; piece_ends = a.piece_ends; bounds = a.bounds; rows = a.rows; columns = a.columns; rulings = a.rulings; shares = a.shares; free = a.free; printed_members = a.printed_members; printed_ends = a.printed_ends; numbers = a.numbers };
            pieces_read = A.pieces_read;
            printed_read = A.printed_read;
            near = A.near;
          });
          marks = rw M (record {
            answers = let b = B.answers in record { boxes = b.boxes; marks = b.marks; coverages = b.coverages; reading = b.reading; members = b.members; ends = b.ends; numbers = b.numbers };
            boxes_read = B.boxes_read;
            reading_read = B.reading_read;
          });
          found = left (subst (λ (m' : Counts). Left (sources g m' (lists_of r k)) l.found c' m finite) e L);
        }

-- the counts are those of the page
pub counted : {g : Page} {r r' : RuleLists} {k k' : MarkLists} {m : Rules.Counts} {n : Marks.Counts} → RulesDone g r r' m → MarksDone g k k' n
    → record { rulings = m.rulings; printed = m.printed; faint = m.faint; tables = m.tables; boxes = n.boxes; grids = n.grids; printed_sets = m.printed_sets; free = m.free; box_sets = n.box_sets } ≡ counts_of g
counted D M i = record { rulings = D.rulings i; printed = D.printed i; faint = D.faint i; tables = D.tables i; boxes = M.boxes i; grids = M.grids i; printed_sets = D.printed_sets i; free = D.free i; box_sets = M.box_sets i }

-- what question 14 shows
pub room_of : (g : Page) → Known g → (l : Lent) → roomy g l ≡ true → Room g.sides.w g.sides.h (count g.pieces) (count g.glyphs) l
room_of g K l r = room_says g.sides.w g.sides.h (count g.pieces) (count g.glyphs) l (omega (arith, K.few_pieces, K.few_glyphs)) r
