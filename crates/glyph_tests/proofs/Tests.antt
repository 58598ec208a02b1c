-- Each way out of the tests on one glyph box: the tests before it let the glyph box through, and its own did not.
use Rattle.std.proofs.Common.{◌≡◌, ℕ, Bool, true, false, sym, ap, ◌∙◌, ap₂}
use lib.Ieee.{Float, lt, le}
use Rattle.rects.specs.Rects.{width_of, height_of}
use Rattle.rects.specs.declared.Rect.{Rect}
use Rattle.ink.specs.Ink.{Ink}
use Rattle.glyph_tests.specs.declared.limits.Limits.{Limits}
use Rattle.glyph_tests.specs.declared.found.CheckBox.{CheckBox}
use Rattle.std.specs.Prelude.{Option, Some, None}
use Rattle.glyph_tests.specs.Tests.{size_missed, has_frame, aspect_missed, edge_coverage, inner_ink, is_ticked}
use Rattle.glyph_tests.specs.Glyph.{frame_missed, box_in, passed_over, trimmed}
use Rattle.glyph_tests.specs.Steps.{found_in, found_of}

-- a test of two sides, with the sides as they were computed
pub size_says : (f : Rect) (least most : Float) {w h : ℕ} {s b : Bool} → w ≡ width_of f → h ≡ height_of f → s ≡ size_missed w h least most → s ≡ b → size_missed (width_of f) (height_of f) least most ≡ b
size_says f least most p q s t = sym (s ∙ ap₂ (λ (w h : ℕ). size_missed w h least most) p q) ∙ t

pub aspect_says : (f : Rect) (tol : Float) {w h : ℕ} {s b : Bool} → w ≡ width_of f → h ≡ height_of f → s ≡ aspect_missed w h tol → s ≡ b → aspect_missed (width_of f) (height_of f) tol ≡ b
aspect_says f tol p q s t = sym (s ∙ ap₂ (λ (w h : ℕ). aspect_missed w h tol) p q) ∙ t

module _ (ink : Ink) (l : Limits) (f : Rect) where
  abbrev size : Bool
  size = size_missed (width_of f) (height_of f) l.min_side l.max_side

  abbrev aspect : Bool
  aspect = aspect_missed (width_of f) (height_of f) l.box_aspect_tol

  pub by_size : size ≡ true → None ≡ found_in ink l f
  unfolding found_in frame_missed
  by_size a = simp a

  pub by_aspect : size ≡ false → aspect ≡ true → None ≡ found_in ink l f
  unfolding found_in frame_missed
  by_aspect a b = simp (a, b)

  pub by_edges : size ≡ false → aspect ≡ false → {c : Float} → c ≡ edge_coverage ink f l.box_tolerance_px → lt c l.box_edge_coverage ≡ true → None ≡ found_in ink l f
  unfolding found_in frame_missed
  by_edges a b e t =
      let d : lt (edge_coverage ink f l.box_tolerance_px) l.box_edge_coverage ≡ true = sym (ap (λ (c : Float). lt c l.box_edge_coverage) e) ∙ t in
      simp (a, b, d)

  module _ (a : size ≡ false) (b : aspect ≡ false) {c i : Float} (e : c ≡ edge_coverage ink f l.box_tolerance_px) (t : lt c l.box_edge_coverage ≡ false) (g : i ≡ inner_ink ink f) where
    straight : lt (edge_coverage ink f l.box_tolerance_px) l.box_edge_coverage ≡ false
    straight = sym (ap (λ (c : Float). lt c l.box_edge_coverage) e) ∙ t

    full : {v : Bool} → lt l.box_max_inner_ink i ≡ v → lt l.box_max_inner_ink (inner_ink ink f) ≡ v
    full u = sym (ap (λ (i : Float). lt l.box_max_inner_ink i) g) ∙ u

    pub by_ink : lt l.box_max_inner_ink i ≡ true → None ≡ found_in ink l f
    unfolding found_in frame_missed
    by_ink u = let d = straight in let k = full u in simp (a, b, d, k)

    pub is_box : lt l.box_max_inner_ink i ≡ false → {q : Rect} → q ≡ f → {t : Bool} → t ≡ le l.box_checked_ink i
        → Some (record { bbox = q; ticked = t; edge_coverage = c }) ≡ found_in ink l f
    unfolding found_in frame_missed box_in
    is_box u r {t} n =
        let d = straight in
        let k = full u in
        let n' : t ≡ is_ticked ink l f = n ∙ ap (le l.box_checked_ink) g in
        ap {B = Option CheckBox} (λ (x : CheckBox). Some x) (λ j. record { bbox = r j; ticked = n' j; edge_coverage = e j }) ∙ simp (a, b, d, k)

module _ (ink : Ink) (l : Limits) (r : Rect) where
  abbrev loose : Bool
  loose = size_missed (width_of r) (height_of r) l.min_size l.slack

  pub by_loose_size : loose ≡ true → None ≡ found_of ink l r
  unfolding found_of passed_over
  by_loose_size a = simp a

  pub by_frame : loose ≡ false → has_frame ink l.box_overshoot_fraction r ≡ false → None ≡ found_of ink l r
  unfolding found_of passed_over
  by_frame a b = simp (a, b)

  pub by_its_frame : loose ≡ false → has_frame ink l.box_overshoot_fraction r ≡ true → found_in ink l (trimmed ink l r) ≡ found_of ink l r
  unfolding found_of passed_over found_in
  by_its_frame a b = simp (a, b)
