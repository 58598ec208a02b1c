-- The tables and the free rulings among some chosen rulings: how many there are, and what is given of them.
use mathlib.Core.Path.{◌≡◌, sym, ap, subst, ◌∙◌}
use mathlib.Core.Bool.{Bool, true, false, not}
use mathlib.Core.List.{List, [], map}
use Prim.Native.Nat.{ℕ, ◌+◌, ◌-◌, ◌*◌, ◌/◌, ◌≤◌, ◌<◌}
use native.Mathlib.Omega.{arith}
use lib.ListN.{length, get_or, length-map}
use Rattle.lists.specs.Lists.{In, below, keep, concat}
use Rattle.lists.proofs.Keep.{length_below, in_below, below_in, kept_in, in_at, at_in, get_d_map, by_place}
use Rattle.lists.proofs.Sizes.{keep_size_le}
use Rattle.lists.proofs.Runs.{strung, strung_keep}
use Rattle.sets.specs.Closed.{Below, Closed}
use Rattle.sets.proofs.Ascending.{ascending_below, sublist}
use Rattle.sets.proofs.Grown.{closed_sets_listed, sets_total}
use Rattle.lines.specs.Lines.{sorted_positions}
use Rattle.lines.proofs.Sorted.{lines_few}
use Rattle.rects.specs.Rects.{count, rect_at}
use Rattle.rects.specs.Steps.{Inside, AllInside}
use Rattle.rects.specs.Around.{around}
use Rattle.rects.proofs.Around.{around_inside}
use Rattle.meeting.specs.declared.segment.Segment.{Segment}
use Rattle.meeting.specs.Segments.{ruling_at}
use Rattle.meeting.specs.Meeting.{touch, Touch}
use Rattle.shapes.specs.declared.limits.Limits.{Limits}
use Rattle.shapes.specs.Shapes.{in_direction, positions, members, lines_of, is_table, rows_of, columns_of}
use Rattle.table_lists.specs.Answers.{table_numbers, free_numbers, places_of}
use Rattle.tables.specs.Call.{all_sets, set_at, tables, free, bounds, rows, columns, rulings, shares}
use Rattle.tables.proofs.Few.{tables_few}
use Rattle.findings.specs.Steps.{NumbersGiven, TablesGiven}
use Rattle.rects.proofs.Strung.{strung_long, strung_inside}
use Rattle.ruled_laws.proofs.Strung.{strung_all}

-- A set has no more lines than members.
lines_short : (cluster : ℕ) (horizontal : Bool) (s : ℕ → Segment) (set : List ℕ) → lines_of cluster horizontal s set ≤ length set
unfolding lines_of
lines_short cluster horizontal s set =
    let ps = positions horizontal s set in
    omega (arith, lines_few cluster (sorted_positions ps) (length ps), length-map (members horizontal s set) (λ i. (s i).centre2 / 2), keep_size_le (λ i. in_direction horizontal (s i)) set)

module _ (rects directions chosen : List ℕ) (lim : Limits) where
  -- The ruling at each index.
  abbrev s : ℕ → Segment
  s = ruling_at rects directions chosen

  -- The set of each number.
  abbrev set : ℕ → List ℕ
  set = set_at rects directions chosen lim

  -- The numbers of the tables.
  abbrev numbers : List ℕ
  numbers = tables rects directions chosen lim

  -- Each table has a rectangle, four numbers.
  pub bounds_size : length (bounds rects directions chosen lim) ≡ 4 * length numbers
  bounds_size = strung_long (λ k. around rects (places_of chosen (set k))) numbers

  -- So there are as many rectangles as tables.
  pub bounds_count : count (bounds rects directions chosen lim) ≡ length numbers
  bounds_count = omega (arith, bounds_size)

  -- Each table has a number of rows.
  pub rows_size : length (rows rects directions chosen lim) ≡ length numbers
  rows_size = length-map numbers (λ k. rows_of lim s (set k))

  -- Each table has a number of columns.
  pub columns_size : length (columns rects directions chosen lim) ≡ length numbers
  columns_size = length-map numbers (λ k. columns_of lim s (set k))

  -- Each table has a number of rulings.
  pub rulings_size : length (rulings rects directions chosen lim) ≡ length numbers
  rulings_size = length-map numbers (λ k. length (set k))

  -- Each table has a joined share.
  pub shares_size : length (shares rects directions chosen lim) ≡ length numbers
  shares_size = length-map numbers _

  -- Each number below the count names a closed set.
  closed : (k : ℕ) → k < length (all_sets rects directions chosen lim) → Closed (Below (length chosen)) (Touch lim.join s) (set k)
  closed = (closed_sets_listed (length chosen) (touch lim.join s)).closed

  -- It has no more members than there are chosen rulings.
  set_short : (k : ℕ) → k < length (all_sets rects directions chosen lim) → length (set k) ≤ length chosen
  set_short k h =
      let c = closed k h in
      rw (length_below (length chosen)) at (sublist c.ascending (ascending_below (length chosen)) (λ i m. in_below (length chosen) i (c.within i m))).0

  -- A table's number is that of a set.
  number_low : (k : ℕ) → k < length numbers → get_or numbers k 0 < length (all_sets rects directions chosen lim)
  unfolding table_numbers
  number_low k h = let n = length (all_sets rects directions chosen lim) in below_in n _ (kept_in (λ j. is_table lim s (set j)) (below n) _ (at_in numbers k h)).0

  -- No more rulings are free than there are.
  pub free_short : length (free rects directions chosen lim) ≤ length chosen
  unfolding free_numbers
  free_short =
      let ss = all_sets rects directions chosen lim in
      let all : length (strung set (below (length ss))) ≡ length (concat ss) = ap (λ (t : List (List ℕ)). length (concat t)) (by_place ss []) in
      omega (arith, strung_keep set (λ k. not (is_table lim s (set k))) (below (length ss)), sets_total (length chosen) (touch lim.join s))

  -- A free ruling is one of the chosen.
  free_low : (i : ℕ) → In (free rects directions chosen lim) i → i < length chosen
  unfolding free_numbers
  free_low i m =
      let n = length (all_sets rects directions chosen lim) in
      let q : ℕ → Bool = λ k. not (is_table lim s (set k)) in
      strung_all (λ (j : ℕ). j < length chosen) set (keep q (below n)) (λ k l j o. (closed k (below_in n k (kept_in q (below n) k l).0)).within j o) i m

  module _ (few : length chosen ≤ 4096) where
    -- The free list is what the findings ask of it.
    pub free_known : NumbersGiven chosen (free rects directions chosen lim)
    free_known =
        record {
          few = omega (arith, free_short);
          number = λ k l. free_low (get_or (free rects directions chosen lim) k 0) (at_in (free rects directions chosen lim) k l);
        }

    module _ {w h : ℕ} (inside : (i : ℕ) → i < length chosen → Inside w h (rect_at rects (get_or chosen i 0))) where
      -- The smallest rectangle around a set lies in the picture.
      set_inside : (k : ℕ) → k < length (all_sets rects directions chosen lim) → Inside w h (around rects (places_of chosen (set k)))
      set_inside k l =
          let c = closed k l in
          around_inside rects (places_of chosen (set k)) (rw (length-map (set k) (λ i. get_or chosen i 0)) c.nonempty)
          (λ i m. placed (set k) (λ j n. c.within j n) i m)
        where
          placed : (xs : List ℕ) → ((j : ℕ) → In xs j → j < length chosen) → (i : ℕ) → In (places_of chosen xs) i → Inside w h (rect_at rects i)
          placed xs low i m =
              let a = in_at (places_of chosen xs) i m in
              let b : a.0 < length xs = rw (length-map xs (λ j. get_or chosen j 0)) at a.1 in
              let e : get_or chosen (get_or xs a.0 0) 0 ≡ i = sym (get_d_map (λ j. get_or chosen j 0) xs a.0 0 b) ∙ a.2 in
              subst (λ (j : ℕ). Inside w h (rect_at rects j)) e (inside (get_or xs a.0 0) (low (get_or xs a.0 0) (at_in xs a.0 b)))

      -- All bounds lie in the picture.
      bounds_inside : AllInside w h (bounds rects directions chosen lim)
      bounds_inside = strung_inside (λ k. around rects (places_of chosen (set k))) numbers 0 (λ k l. set_inside (get_or numbers k 0) (number_low k l))

      -- The lines of a table less one are few.
      lines_low : (horizontal : Bool) (k : ℕ) → k < count (bounds rects directions chosen lim) → get_or (map (λ j. lines_of lim.cluster horizontal s (set j) - 1) numbers) k 0 ≤ 4096
      lines_low horizontal k l =
          let m : k < length numbers = rw bounds_count at l in
          let j = get_or numbers k 0 in
          let e = get_d_map (λ i. lines_of lim.cluster horizontal s (set i) - 1) numbers k 0 m in
          omega (arith, e, lines_short lim.cluster horizontal s (set j), set_short j (number_low k m))

      -- The tables are what the findings ask of them.
      pub tables_known :
          TablesGiven w h (bounds rects directions chosen lim) (rows rects directions chosen lim) (columns rects directions chosen lim) (rulings rects directions chosen lim)
          (shares rects directions chosen lim)
      tables_known =
          record {
            inside = bounds_inside;
            few = omega (arith, bounds_count, tables_few rects directions chosen lim);
            rows_long = omega (arith, bounds_count, rows_size);
            columns_long = omega (arith, bounds_count, columns_size);
            rulings_long = omega (arith, bounds_count, rulings_size);
            shares_long = omega (arith, bounds_count, shares_size);
            rows_few = lines_low true;
            columns_few = lines_low false;
          }
