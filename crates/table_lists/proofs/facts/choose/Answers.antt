-- `facts::choose` meets its contract: after k turns the first k sets are gone through.
use mathlib.Core.Path.{◌≡◌, sym, ◌∙◌}
use mathlib.Core.Bool.{Bool, true, false}
use mathlib.Core.List.{List}
use Prim.Native.Nat.{ℕ, ◌≤◌, ◌<◌}
use native.Mathlib.Omega.{arith}
use borrow.Author.Tests.{leb-true}
use lib.Dec.{leb}
use lib.ListN.{length}
use Rattle.lists.proofs.Every.{and_first, and_second}
use Rattle.meeting.specs.declared.segment.Segment.{Segment}
use Rattle.shapes.specs.declared.limits.Limits.{Limits}
use Rattle.shapes.specs.Shapes.{is_table, has_minima, has_two_lines, lines_of}
use Rattle.shapes.specs.Steps.{Shaped}
use Rattle.meeting.specs.Steps.{IndexesBelow}
use Rattle.table_lists.proofs.Passes.{chose_none}
use Rattle.table_lists.proofs.facts.choose.Invariants.{fits, known, low, moved, refused, table}
use Rattle.table_lists.proofs.facts.choose.Goals.{In-loop-k, After-at-set, Then-found, then-found, else-found}
use Rattle.table_lists.proofs.facts.choose.Goals as goal

-- the lines of a table
pub record Lines (h v n : ℕ) : Type 0 where
  rows : 2 ≤ h
  columns : 2 ≤ v
  few_rows : h ≤ n
  few_columns : v ≤ n

two_lines : {lim : Limits} {s : ℕ → Segment} {xs : List ℕ} {b : Bool} {h v n : ℕ} → Shaped lim s xs b h v → b ≡ true → length xs ≤ n → Lines h v n
unfolding is_table
two_lines {lim} {s} {xs} {h = h} {v} F e l =
    let table : is_table lim s xs ≡ true = sym F.table ∙ e in
    let lines = and_second (has_minima lim s xs) (has_two_lines lim s xs) table in
    let r : 2 ≤ lines_of lim.cluster true s xs = leb-true 2 _ (and_first (leb 2 (lines_of lim.cluster true s xs)) (leb 2 (lines_of lim.cluster false s xs)) lines) in
    let q : 2 ≤ lines_of lim.cluster false s xs = leb-true 2 _ (and_second (leb 2 (lines_of lim.cluster true s xs)) (leb 2 (lines_of lim.cluster false s xs)) lines) in
    record { rows = omega (arith, F.rows); columns = omega (arith, F.columns); few_rows = omega (arith, F.few.0); few_columns = omega (arith, F.few.1) }

-- there is a place left in the tables' lists, and the set is known
place : (c : In-loop-k) → c.loop-k.tables < length c.args.rulings.now.chosen
place c = low c.requires.given c.loop-k.invariant c.loop-k-test.true

members : (c : After-at-set) → IndexesBelow (length c.args.rulings.now.chosen) c.at-set.result.now
members c = known c.requires.given c.loop-k.invariant c.loop-k-test.true c.at-set.ensures

lines : (c : Then-found) → Lines c.shape_of-found.result.row_lines c.shape_of-found.result.column_lines (length c.args.rulings.now.chosen)
lines c = two_lines c.shape_of-found.ensures c.if-found.true (members (goal.at.Then-found c).After-at-set).short

pub loop-k-init : goal.loop-k-init
loop-k-init c = chose_none _ _ _ _ _ _ _

pub bounds-numbers-tables : goal.bounds-numbers-tables
bounds-numbers-tables c = omega (arith, place (goal.at.bounds-numbers-tables c).In-loop-k, c.requires.rooms.numbers)

pub overflow_sub-rows : goal.overflow_sub-rows
overflow_sub-rows c = omega (arith, (lines (goal.at.overflow_sub-rows c).Then-found).rows)

pub bounds-rows-tables : goal.bounds-rows-tables
bounds-rows-tables c = omega (arith, place (goal.at.bounds-rows-tables c).In-loop-k, c.requires.rooms.rows)

pub overflow_sub-columns : goal.overflow_sub-columns
overflow_sub-columns c = omega (arith, (lines (goal.at.overflow_sub-columns c).Then-found).columns)

pub bounds-columns-tables : goal.bounds-columns-tables
bounds-columns-tables c = omega (arith, place (goal.at.bounds-columns-tables c).In-loop-k, c.requires.rooms.columns)

pub append-at-requires : goal.append-at-requires
append-at-requires c =
    omega (arith, fits c.requires.given c.loop-k.invariant c.loop-k-test.true c.at-set.ensures, c.requires.rooms.free)

pub loop-k-preserved : goal.loop-k-preserved
loop-k-preserved c =
    let S = c.requires.given in
    let R = c.requires.rooms in
    elim c.if-found.branch [
      | then-found w ↦ moved (table S c.loop-k.invariant c.loop-k-test.true c.at-set.ensures R c.shape_of-found.ensures w.if-found.true) w.numbers-is w.rows-is w.columns-is w.free-is w.tables-is w.at-is
      | else-found w ↦ moved (refused S c.loop-k.invariant c.loop-k-test.true c.at-set.ensures R c.shape_of-found.ensures w.if-found.false w.append-at.ensures.0 w.append-at.ensures.1) w.numbers-is w.rows-is w.columns-is w.free-is w.tables-is w.at-is
    ]
