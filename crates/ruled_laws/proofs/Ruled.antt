-- The rulings and tables of a page whose pieces pass their questions: how many there are, and what is given of them.
use mathlib.Core.Path.{◌≡◌, refl, ◌∙◌}
use mathlib.Core.Bool.{Bool, true, false, not}
use mathlib.Core.List.{[]}
use Prim.Native.Nat.{ℕ, ◌+◌, ◌*◌, ◌≤◌, ◌<◌}
use native.Mathlib.Omega.{arith}
use borrow.Author.Tests.{leb-true}
use lib.Dec.{leb}
use lib.Ieee.{nan}
use lib.ListN.{length, get_or, length-map}
use Rattle.lists.specs.Lists.{one}
use Rattle.lists.proofs.Sizes.{keep_size_le}
use Rattle.sets.proofs.Sizes as Sizes
use Rattle.rects.specs.Rects.{count}
use Rattle.rects.specs.Steps.{AllInside}
use Rattle.rects.specs.Around.{around}
use Rattle.params.specs.Limits.{across_limit, gap_limit}
use Rattle.pieces.specs.Pieces.{touch}
use Rattle.ruling_lists.specs.Rulings.{ruling_of, direction_of, direction_number}
use Rattle.printed_rulings.specs.Printed as Printed
use Rattle.segments.proofs.Demand as Demand
use Rattle.ruling_lists.proofs.Rectangles.{set_inside}
use Rattle.printed_rulings.proofs.PrintedFaint.{printed_and_faint}
use Rattle.meeting.specs.Steps as Meeting
use Rattle.tables.proofs.Few as Few
use Rattle.findings.specs.Made.{free_places, free_count_of, fold_inches, folds}
use Rattle.findings.specs.Steps.{NumbersGiven, AllGiven, TablesGiven}
use Rattle.evidence.specs.Kinds.{is_fold}
use Rattle.page.specs.Page as Page
use Rattle.page.specs.Page.{Page}
use Rattle.rects.proofs.Strung.{strung_long, strung_inside}
use Rattle.ruled_laws.proofs.Places.{picked_given, picked_chosen}
use Rattle.ruled_laws.proofs.Tabled as Tabled

-- Tables, a finding of free rules and folds are no more than the rulings, where free rules take one set more.
enough : (m n tables printed folds all : ℕ) → 1 ≤ m → (0 < n → tables + 1 ≤ printed) → tables ≤ printed → printed + folds ≤ all → tables + one (leb m n) + folds ≤ all
enough m n tables printed folds all some more few both = go (leb m n) (λ e. e)
  where
    go : (b : Bool) → (b ≡ true → leb m n ≡ true) → tables + one b + folds ≤ all
    go true e = let l = leb-true m n (e refl) in let o = more (omega arith) in omega arith
    go false e = omega arith

module _ (g : Page) (few : count g.pieces ≤ 4096) (narrow : g.sides.w ≤ 8192) (low : g.sides.h ≤ 8192) (inside : AllInside g.sides.w g.sides.h g.pieces) where
  -- There are no more rulings than pieces.
  pub sets_few : length (Page.piece_sets g) ≤ count g.pieces
  sets_few =
      let across = across_limit g.settings g.xheight in
      let gap = gap_limit g.settings g.xheight in
      omega (arith, Demand.rulings_long g.pieces across gap, Sizes.sets_few (count g.pieces) (touch g.pieces across gap))

  -- Each ruling has a rectangle, four numbers.
  pub rects_long : length (Page.rects g) ≡ 4 * length (Page.piece_sets g)
  rects_long = strung_long (around g.pieces) (Page.piece_sets g)

  -- Each ruling has a direction.
  pub directions_long : length (Page.directions g) ≡ length (Page.piece_sets g)
  directions_long = length-map (Page.piece_sets g) (λ s. direction_number (direction_of g.pieces s))

  -- Each ruling has a contrast.
  pub contrasts_long : length (Page.contrasts g) ≡ length (Page.piece_sets g)
  contrasts_long = length-map (Page.piece_sets g) (λ s. (ruling_of (Page.raster g) g.sides.w g.sides.h g.pieces s).contrast)

  -- Each ruling is printed or faint.
  pub printed_few : length (Page.printed g) + length (Page.faint g) ≡ length (Page.piece_sets g)
  printed_few = printed_and_faint g.settings (Page.contrasts g) ∙ contrasts_long

  -- Each ruling lies in the picture.
  rects_inside : AllInside g.sides.w g.sides.h (Page.rects g)
  rects_inside =
      let L = Demand.rulings_listed g.pieces (across_limit g.settings g.xheight) (gap_limit g.settings g.xheight) in
      strung_inside (around g.pieces) (Page.piece_sets g) []
      (λ k l. let c = L.closed k l in set_inside g.pieces (get_or (Page.piece_sets g) k []) inside c.nonempty c.within)

  -- There are at most 4,096 rulings.
  rulings_few : length (Page.piece_sets g) ≤ 4096
  rulings_few = omega (arith, sets_few)

  -- The printed rulings are what the tables ask of them.
  pub chosen_given : Meeting.Given (Page.rects g) (Page.directions g) (Page.printed g)
  chosen_given =
      picked_chosen (Page.rects g) (Page.directions g) (Page.contrasts g) (λ k. Printed.printed g.settings (get_or (Page.contrasts g) k nan)) rects_long directions_long contrasts_long
      rulings_few rects_inside narrow low

  -- The printed rulings are what the findings ask of them.
  pub printed_given : AllGiven g.sides.w g.sides.h (Page.rects g) (Page.directions g) (Page.contrasts g) (Page.printed g)
  printed_given =
      picked_given (Page.rects g) (Page.directions g) (Page.contrasts g) (λ k. Printed.printed g.settings (get_or (Page.contrasts g) k nan)) rects_long directions_long contrasts_long
      rulings_few rects_inside

  -- The faint rulings are what the findings ask of them.
  pub faint_given : AllGiven g.sides.w g.sides.h (Page.rects g) (Page.directions g) (Page.contrasts g) (Page.faint g)
  faint_given =
      picked_given (Page.rects g) (Page.directions g) (Page.contrasts g) (λ k. not (Printed.printed g.settings (get_or (Page.contrasts g) k nan))) rects_long directions_long contrasts_long
      rulings_few rects_inside

  -- There are no more tables than printed rulings.
  pub tables_few : length (Page.table_numbers g) ≤ length (Page.printed g)
  tables_few = Few.tables_few (Page.rects g) (Page.directions g) (Page.printed g) (Page.table_limits g)

  -- Each table has a rectangle, four numbers.
  pub bounds_long : length (Page.bounds g) ≡ 4 * length (Page.table_numbers g)
  bounds_long = Tabled.bounds_size (Page.rects g) (Page.directions g) (Page.printed g) (Page.table_limits g)

  -- Each table has a number of rows.
  pub rows_long : length (Page.rows g) ≡ length (Page.table_numbers g)
  rows_long = Tabled.rows_size (Page.rects g) (Page.directions g) (Page.printed g) (Page.table_limits g)

  -- Each table has a number of columns.
  pub columns_long : length (Page.columns g) ≡ length (Page.table_numbers g)
  columns_long = Tabled.columns_size (Page.rects g) (Page.directions g) (Page.printed g) (Page.table_limits g)

  -- Each table has a number of rulings.
  pub rulings_long : length (Page.rulings g) ≡ length (Page.table_numbers g)
  rulings_long = Tabled.rulings_size (Page.rects g) (Page.directions g) (Page.printed g) (Page.table_limits g)

  -- Each table has a joined share.
  pub shares_long : length (Page.shares g) ≡ length (Page.table_numbers g)
  shares_long = Tabled.shares_size (Page.rects g) (Page.directions g) (Page.printed g) (Page.table_limits g)

  -- No more rulings are free than printed.
  pub free_few : length (Page.free g) ≤ length (Page.printed g)
  free_few = Tabled.free_short (Page.rects g) (Page.directions g) (Page.printed g) (Page.table_limits g)

  -- The tables are what the findings ask of them.
  pub tables_given : TablesGiven g.sides.w g.sides.h (Page.bounds g) (Page.rows g) (Page.columns g) (Page.rulings g) (Page.shares g)
  tables_given =
      Tabled.tables_known (Page.rects g) (Page.directions g) (Page.printed g) (Page.table_limits g) chosen_given.few printed_given.given.inside

  -- The free list is what the findings ask of it.
  pub free_given : NumbersGiven (Page.printed g) (Page.free g)
  free_given = Tabled.free_known (Page.rects g) (Page.directions g) (Page.printed g) (Page.table_limits g) chosen_given.few

  -- Every fold is a faint ruling.
  pub folds_few : length (folds g.settings g.dpi (Page.rects g) (Page.directions g) (Page.faint g)) ≤ length (Page.faint g)
  folds_few = keep_size_le (λ k. is_fold g.settings (fold_inches g.dpi (Page.rects g) (Page.directions g) k)) (Page.faint g)

  -- Tables, the free rules and folds make no more findings than there are rulings.
  pub first_few : 1 ≤ g.settings.min_free_rules
      → count (Page.bounds g) + free_count_of g.settings (free_places (Page.printed g) (Page.free g)) + length (folds g.settings g.dpi (Page.rects g) (Page.directions g) (Page.faint g))
      ≤ length (Page.piece_sets g)
  first_few some =
      let n = length (free_places (Page.printed g) (Page.free g)) in
      let size : n ≡ length (Page.free g) = length-map (Page.free g) (λ i. get_or (Page.printed g) i 0) in
      let tables = count (Page.bounds g) in
      let e : tables ≡ length (Page.table_numbers g) = Tabled.bounds_count (Page.rects g) (Page.directions g) (Page.printed g) (Page.table_limits g) in
      let fs = length (folds g.settings g.dpi (Page.rects g) (Page.directions g) (Page.faint g)) in
      enough g.settings.min_free_rules n tables (length (Page.printed g)) fs (length (Page.piece_sets g)) some
      (λ l. let m = Few.tables_and_free_few (Page.rects g) (Page.directions g) (Page.printed g) (Page.table_limits g) (omega arith) in omega arith)
      (omega (arith, tables_few)) (omega (arith, folds_few, printed_few))
