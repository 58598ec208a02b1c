-- An edge coverage is finite and at most 1: a run along a side is at most the side, and rounding doesn't pass a whole number.
use mathlib.Core.Path.{refl}
use mathlib.Core.Bool.{Bool, not}
use mathlib.Core.List.Memᴰ
use mathlib.Core.List.{List, [], ◌∷◌, map}
use Prim.Native.Nat.{ℕ, ◌<◌, ◌≤◌}
use native.Mathlib.Nat.{le_trans}
use native.Mathlib.Omega.{arith}
use lib.Dec.{lit<}
use lib.Ieee.{Float}
use Rattle.lists.specs.Lists.{In, below}
use Rattle.lists.proofs.Keep.{kept_in, below_in}
use Rattle.math.proofs.Bound.{AtMost, min_at_most}
use Rattle.math.proofs.Quotient.{quotient_at_most}
use Rattle.math.proofs.SumBound.{Each}
use Rattle.rects.specs.Rects.{width_of, height_of, count, rect_at}
use Rattle.rects.specs.Steps.{AllInside}
use Rattle.rects.specs.declared.Rect.{Rect}
use Rattle.ink.specs.Ink.{Ink}
use Rattle.ink.specs.Places.{longest_run}
use Rattle.ink.proofs.Places.{last_is}
use Rattle.ink.proofs.Runs.{longest_run_is}
use Rattle.glyph_tests.specs.declared.limits.Limits.{Limits}
use Rattle.glyph_tests.specs.Tests.{row_over, column_over, frame_of, top_edge, bottom_edge, left_edge, right_edge, run_share, edge_coverage}
use Rattle.glyph_tests.specs.Glyph.{box_in, trimmed, passed_over, box_of}
use Rattle.box_lists.specs.Boxes.{chosen, boxes_below, boxes_of, coverages_of}

-- a run along a side is at most the side
pub run_share_small : (q : ℕ → Bool) (n : ℕ) → 0 < n → n ≤ 8192 → AtMost 1 (run_share q n)
run_share_small q n some few =
    let r = (longest_run_is q n).run in
    let l : longest_run q n ≤ n = omega (arith, r.within) in
    quotient_at_most 1 (longest_run q n) n some (omega arith) (omega arith) (omega arith) (lit< tt)

pub edge_coverage_small : (ink : Ink) (f : Rect) (tol : ℕ) → width_of f ≤ 8192 → height_of f ≤ 8192 → AtMost 1 (edge_coverage ink f tol)
unfolding edge_coverage
edge_coverage_small ink f tol wide high =
    min_at_most
    (min_at_most (min_at_most (run_share_small (top_edge ink f tol) (width_of f) (omega arith) wide) (run_share_small (bottom_edge ink f tol) (width_of f) (omega arith) wide)) (run_share_small (left_edge ink f tol) (height_of f) (omega arith) high))
    (run_share_small (right_edge ink f tol) (height_of f) (omega arith) high)

-- ---- the boxes of a page

-- a frame is no larger than its glyph box
frame_sides : (ink : Ink) (fraction : Float) (r : Rect) → (width_of (frame_of ink fraction r) ≤ width_of r) × (height_of (frame_of ink fraction r) ≤ height_of r)
unfolding frame_of
frame_sides ink fraction r =
    (omega (arith, (last_is (column_over ink fraction r) (width_of r)).within), omega (arith, (last_is (row_over ink fraction r) (height_of r)).within))

pub box_coverage_small : (ink : Ink) (l : Limits) (r : Rect) → width_of r ≤ 8192 → height_of r ≤ 8192 → AtMost 1 (box_of ink l r).edge_coverage
unfolding box_in
box_coverage_small ink l r wide high =
    let s = frame_sides ink l.box_overshoot_fraction r in
    edge_coverage_small ink (trimmed ink l r) l.box_tolerance_px (le_trans s.0 wide) (le_trans s.1 high)

module _ (ink : Ink) (l : Limits) (glyphs : List ℕ) (inside : AllInside 8192 8192 glyphs) where
  each_small : (ks : List ℕ) → ((k : ℕ) → In ks k → k < count glyphs) → Each 1 (coverages_of (map (λ k. box_of ink l (rect_at glyphs k)) ks))
  each_small [] h = tt
  each_small (k ∷ ks) h =
      let i = inside k (h k (Memᴰ.head refl)) in
      (box_coverage_small ink l (rect_at glyphs k) (omega (arith, i.wide, i.right)) (omega (arith, i.high, i.bottom)), each_small ks (λ j m. h j (Memᴰ.tail m)))

  pub coverages_small : Each 1 (coverages_of (boxes_of ink l glyphs))
  unfolding boxes_below
  coverages_small =
      each_small (chosen ink l glyphs (count glyphs))
      (λ k m. below_in (count glyphs) k (kept_in (λ j. not (passed_over ink l (rect_at glyphs j))) (below (count glyphs)) k m).0)
