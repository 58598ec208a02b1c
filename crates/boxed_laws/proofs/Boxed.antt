-- What is given of the boxes and grids of a page: each grid is a closed set of boxes, so it has a member, and its members are places of boxes.
use mathlib.Core.Path.{◌≡◌, sym, ◌∙◌}
use mathlib.Core.Bool.{Bool}
use mathlib.Core.List.{List, []}
use Prim.Native.Nat.{ℕ, ◌*◌, ◌<◌, ◌≤◌}
use native.Mathlib.Decide.{dec_lt}
use native.Mathlib.Omega.{arith}
use lib.Ieee.{Float}
use Rattle.std.specs.Int.{from_bool}
use lib.ListN.{length, get_or, length-map, get_or-eq_default}
use Rattle.lists.specs.Lists as Lists
use Rattle.lists.proofs.Keep.{length_below, in_below, below_in, kept_in, at_in}
use Rattle.sets.specs.Closed.{Below, Closed}
use Rattle.sets.specs.Listing.{members_of, ReadAs}
use Rattle.sets.proofs.Ascending.{ascending_below, sublist}
use Rattle.sets.proofs.Grown.{Holds, closed_sets_listed}
use Rattle.sets.proofs.Sizes as Sizes
use Rattle.rects.specs.Rects.{count}
use Rattle.rects.specs.Steps.{AllInside}
use Rattle.rects.proofs.Questions.{has_numbers}
use Rattle.params.specs.Limits.{align_limit}
use Rattle.box_lists.proofs.EveryBox.{rectangles_long}
use Rattle.box_sets.specs.Boxes.{touch, box_sets}
use Rattle.box_widths.specs.Steps.{PassedBoxes}
use Rattle.grids.specs.Grids.{is_grid, grid_numbers}
use Rattle.grids.proofs.Choosing as Choosing
use Rattle.findings.specs.Steps.{AllGiven, GridsGiven}
use Rattle.page.specs.Page as Page
use Rattle.page.specs.Page.{Page}

-- A listing as it is read is the function of its sets.
pub read_function : (ss : List (List ℕ)) (members ends : List ℕ) (n : ℕ) → n ≡ length ss → ReadAs ss members ends n → members_of members ends n ≡ (λ k. get_or ss k [])
read_function ss members ends n e R = λ i k. at k (dec_lt k n) i
  where
    at : (k : ℕ) → Dec (k < n) → members_of members ends n k ≡ get_or ss k []
    at k (yes h) = R.each k h
    at k (no h) = let past : length ss ≤ k = omega arith in R.none k (omega arith) ∙ sym (get_or-eq_default ss [] past)

-- ---- over plain lists

-- The number of a grid is below the number of sets.
number_below : (least : ℕ) (set : ℕ → List ℕ) (n k : ℕ) → k < length (grid_numbers least set n) → get_or (grid_numbers least set n) k 0 < n
unfolding grid_numbers
number_below least set n k h =
    let q : ℕ → Bool = λ j. is_grid least (set j) in
    let xs = Lists.keep q (Lists.below n) in
    below_in n (get_or xs k 0) (kept_in q (Lists.below n) (get_or xs k 0) (at_in xs k h)).0

-- A closed set of the indexes below n has at most n members.
closed_short : (n : ℕ) {R : ℕ → ℕ → Type 0} (s : List ℕ) → Closed (Below n) R s → length s ≤ n
closed_short n s C = rw (length_below n) at (sublist C.ascending (ascending_below n) (λ i m. in_below n i (C.within i m))).0

module _ (w h : ℕ) (rects marks : List ℕ) (coverages : List Float) (inside : AllInside w h rects) (few : count rects ≤ 16384)
    (marks-wide : count rects ≤ length marks) (coverages-wide : count rects ≤ length coverages) where
  -- Each member of a closed set of boxes has a rectangle inside the picture, a mark and a coverage.
  members_given : {R : ℕ → ℕ → Type 0} (s : List ℕ) → Closed (Below (count rects)) R s → AllGiven w h rects marks coverages s
  members_given s C =
      record {
        given = record {
          entries = record { few = omega (arith, closed_short (count rects) s C); number = λ k l. omega (arith, place k l) };
          rect = λ k l. has_numbers (length rects) (get_or s k 0) (place k l);
          inside = λ k l. inside (get_or s k 0) (place k l);
        };
        value = λ k l. omega (arith, place k l);
      }
    where
      place : (k : ℕ) → k < length s → get_or s k 0 < count rects
      place k l = C.within (get_or s k 0) (at_in s k l)

  -- The grids among the closed sets are so given.
  sets_given : (limit least : ℕ) → GridsGiven w h rects marks coverages (λ k. get_or (box_sets rects limit) k [])
      (grid_numbers least (λ k. get_or (box_sets rects limit) k []) (length (box_sets rects limit)))
  sets_given limit least = record { some = λ k l. (closed k l).nonempty; boxes = λ k l. members_given (set (get_or numbers k 0)) (closed k l) }
    where
      set : ℕ → List ℕ
      set k = get_or (box_sets rects limit) k []

      numbers : List ℕ
      numbers = grid_numbers least set (length (box_sets rects limit))

      closed : (k : ℕ) → k < length numbers → Closed (Below (count rects)) (Holds (touch rects limit)) (set (get_or numbers k 0))
      closed k l = (closed_sets_listed (count rects) (touch rects limit)).closed (get_or numbers k 0) (number_below least set (length (box_sets rects limit)) k l)

-- ---- of a page

module _ (g : Page) (few : count g.glyphs ≤ 16384) (boxes_few : length (Page.boxes g) ≤ count g.glyphs) (picture : AllInside g.sides.w g.sides.h (Page.box_rects g)) (below : AllInside 8192 8192 (Page.box_rects g)) where
  -- The rectangles of the boxes are four numbers each.
  pub rects_long : length (Page.box_rects g) ≡ 4 * length (Page.boxes g)
  rects_long = rectangles_long (Page.boxes g)

  -- Each box has a mark.
  pub marks_long : length (Page.marks g) ≡ length (Page.boxes g)
  marks_long = length-map (Page.boxes g) (λ b. from_bool b.ticked)

  -- Each box has a coverage.
  pub coverages_long : length (Page.coverages g) ≡ length (Page.boxes g)
  coverages_long = length-map (Page.boxes g) (λ b. b.edge_coverage)

  -- There are as many rectangles as boxes.
  rects_counted : count (Page.box_rects g) ≡ length (Page.boxes g)
  rects_counted = omega (arith, rects_long)

  -- The boxes pass questions 5 and 6.
  pub boxes_given : PassedBoxes (Page.box_rects g)
  boxes_given = record { inside = below; few = omega (arith, rects_counted) }

  -- There are no more sets than boxes.
  pub sets_few : length (Page.box_sets g) ≤ length (Page.boxes g)
  sets_few = omega (arith, rects_counted, Sizes.sets_few (count (Page.box_rects g)) (touch (Page.box_rects g) (align_limit g.settings g.xheight)))

  -- There are no more grids than boxes.
  pub grids_few : length (Page.grid_numbers g) ≤ length (Page.boxes g)
  grids_few = omega (arith, sets_few, Choosing.grids_few g.settings.grid_min_boxes (λ k. get_or (Page.box_sets g) k []) (length (Page.box_sets g)))

  -- Each grid has a member, and each of its members a rectangle inside the picture, a mark and a coverage.
  pub grids_given : GridsGiven g.sides.w g.sides.h (Page.box_rects g) (Page.marks g) (Page.coverages g) (λ k. get_or (Page.box_sets g) k []) (Page.grid_numbers g)
  grids_given =
      sets_given g.sides.w g.sides.h (Page.box_rects g) (Page.marks g) (Page.coverages g) picture (omega (arith, rects_counted))
      (omega (arith, rects_counted, marks_long)) (omega (arith, rects_counted, coverages_long)) (align_limit g.settings g.xheight) g.settings.grid_min_boxes
