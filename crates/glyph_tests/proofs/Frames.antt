-- The frame lies inside its glyph box, in order, since the first line over the limit stands no later than the last.
use Rattle.std.proofs.Common.{◌≡◌, ℕ, ◌+◌, ◌-◌, ◌<◌, ◌≤◌, Bool, true, false, cond, ltb, sym, refl, ap, ◌∙◌, arith, ltb-true, le-ltb, lt-ltb}
use lib.Ieee.{Float, binary64, mul}
use Rattle.lists.proofs.Every.{and_first, and_second}
use Rattle.math.specs.Sum.{whole}
use Rattle.rects.specs.Rects.{width_of, height_of}
use Rattle.rects.specs.Steps.{Inside}
use Rattle.rects.specs.declared.Rect.{Rect}
use Rattle.ink.specs.Ink.{Ink, row_ink, column_ink}
use Rattle.ink.specs.Steps.{Within}
use Rattle.ink.specs.Places.{over, first_place, last_end}
use Rattle.ink.proofs.Places.{last_is, first_before_end}
use Rattle.std.specs.Prelude.{Option, Some, None}
use Rattle.glyph_tests.specs.Tests.{row_over, column_over, top_of, bottom_of, left_of, right_of, has_frame, frame_of}
use Rattle.glyph_tests.specs.Steps.{framed_of}

module _ (ink : Ink) (fraction : Float) (r : Rect) where
  -- what the searches find, with the width or the height as it was computed
  pub top_is : {n k : ℕ} {x : Float} → x ≡ whole n → n ≡ width_of r → k ≡ first_place (λ j. over (mul binary64 fraction x) (row_ink ink r j)) (height_of r) → k ≡ top_of ink fraction r
  top_is d e f = f ∙ ap (λ (x : Float). first_place (λ j. over (mul binary64 fraction x) (row_ink ink r j)) (height_of r)) (d ∙ ap whole e)

  pub bottom_is : {n k : ℕ} {x : Float} → x ≡ whole n → n ≡ width_of r → k ≡ last_end (λ j. over (mul binary64 fraction x) (row_ink ink r j)) (height_of r) → k ≡ bottom_of ink fraction r
  bottom_is d e f = f ∙ ap (λ (x : Float). last_end (λ j. over (mul binary64 fraction x) (row_ink ink r j)) (height_of r)) (d ∙ ap whole e)

  pub left_is : {n k : ℕ} {x : Float} → x ≡ whole n → n ≡ height_of r → k ≡ first_place (λ i. over (mul binary64 fraction x) (column_ink ink r i)) (width_of r) → k ≡ left_of ink fraction r
  left_is d e f = f ∙ ap (λ (x : Float). first_place (λ i. over (mul binary64 fraction x) (column_ink ink r i)) (width_of r)) (d ∙ ap whole e)

  pub right_is : {n k : ℕ} {x : Float} → x ≡ whole n → n ≡ height_of r → k ≡ last_end (λ i. over (mul binary64 fraction x) (column_ink ink r i)) (width_of r) → k ≡ right_of ink fraction r
  right_is d e f = f ∙ ap (λ (x : Float). last_end (λ i. over (mul binary64 fraction x) (column_ink ink r i)) (width_of r)) (d ∙ ap whole e)

  -- where there is a first line, the last stands no earlier, and inside
  pub rows_ordered : top_of ink fraction r < height_of r → (top_of ink fraction r < bottom_of ink fraction r) × (bottom_of ink fraction r ≤ height_of r)
  rows_ordered l = (first_before_end (row_over ink fraction r) (height_of r) l, (last_is (row_over ink fraction r) (height_of r)).within)

  pub columns_ordered : left_of ink fraction r < width_of r → (left_of ink fraction r < right_of ink fraction r) × (right_of ink fraction r ≤ width_of r)
  columns_ordered l = (first_before_end (column_over ink fraction r) (width_of r) l, (last_is (column_over ink fraction r) (width_of r)).within)

  -- ---- the three ways out

  pub no_row : {top h : ℕ} → top ≡ top_of ink fraction r → h ≡ height_of r → h ≤ top → None ≡ framed_of ink fraction r
  unfolding framed_of has_frame
  no_row e f l = let t = le-ltb (top_of ink fraction r) (height_of r) (omega arith) in simp t

  pub no_column : {top h left w : ℕ} → top ≡ top_of ink fraction r → h ≡ height_of r → top < h → left ≡ left_of ink fraction r → w ≡ width_of r → w ≤ left → None ≡ framed_of ink fraction r
  unfolding framed_of has_frame
  no_column e f l g k m =
      let s = lt-ltb (top_of ink fraction r) (height_of r) (omega arith) in
      let t = le-ltb (left_of ink fraction r) (width_of r) (omega arith) in
      simp (s, t)

  pub framed : {top h left w bottom right : ℕ} → top ≡ top_of ink fraction r → h ≡ height_of r → top < h → left ≡ left_of ink fraction r → w ≡ width_of r → left < w
      → bottom ≡ bottom_of ink fraction r → right ≡ right_of ink fraction r
      → Some (record { x0 = r.x0 + left; y0 = r.y0 + top; x1 = r.x0 + (right - 1); y1 = r.y0 + (bottom - 1) }) ≡ framed_of ink fraction r
  unfolding framed_of has_frame frame_of
  framed {top} {h} {left} {w} {bottom} {right} e f l g k m b c =
      let s = lt-ltb (top_of ink fraction r) (height_of r) (omega arith) in
      let t = lt-ltb (left_of ink fraction r) (width_of r) (omega arith) in
      ap {B = Option Rect} (λ (q : Rect). Some q) (λ i. record { x0 = r.x0 + g i; y0 = r.y0 + e i; x1 = r.x0 + (c i - 1); y1 = r.y0 + (b i - 1) }) ∙ simp (s, t)

  -- ---- what an answer says

  pub frameless : {f : Option Rect} → f ≡ framed_of ink fraction r → f ≡ None → has_frame ink fraction r ≡ false
  unfolding framed_of
  frameless e n = go (has_frame ink fraction r) (frame_of ink fraction r) (sym e ∙ n)
    where
      go : (b : Bool) (g : Rect) → cond b (Some g) None ≡ None → b ≡ false
      go true g h = absurd (let z : ◌≡◌ {A = ℕ} 0 1 = cc in omega arith)
      go false g h = refl

  pub has_one : {f : Option Rect} {g : Rect} → f ≡ framed_of ink fraction r → f ≡ Some g → (has_frame ink fraction r ≡ true) × (g ≡ frame_of ink fraction r)
  unfolding framed_of
  has_one {f} {g} e n = go (has_frame ink fraction r) (frame_of ink fraction r) (sym e ∙ n)
    where
      go : (b : Bool) (q : Rect) → cond b (Some q) None ≡ Some g → (b ≡ true) × (g ≡ q)
      go true q h = (refl, cc)
      go false q h = absurd (let z : ◌≡◌ {A = ℕ} 0 1 = cc in omega arith)

  -- ---- where the frame lies

  -- in order, and it ends no later than its glyph box
  frame_ends : r.x0 ≤ r.x1 → r.y0 ≤ r.y1 → has_frame ink fraction r ≡ true
      → let f = frame_of ink fraction r in (f.x0 ≤ f.x1) × (f.y0 ≤ f.y1) × (f.x1 ≤ r.x1) × (f.y1 ≤ r.y1)
  unfolding has_frame frame_of
  frame_ends wide high h =
      let s = ltb (top_of ink fraction r) (height_of r) in
      let t = ltb (left_of ink fraction r) (width_of r) in
      let v = rows_ordered (ltb-true _ _ (and_first s t h)) in
      let u = columns_ordered (ltb-true _ _ (and_second s t h)) in
      (omega (arith, u), omega (arith, v), omega (arith, u), omega (arith, v))

  -- a part of the glyph box
  pub frame_within : r.x0 ≤ r.x1 → r.y0 ≤ r.y1 → has_frame ink fraction r ≡ true → Within (frame_of ink fraction r) r
  frame_within wide high h = let e = frame_ends wide high h in record { wide = e.0; high = e.1; right = e.2; bottom = e.3 }

  -- and lies in a picture that the glyph box lies in
  pub frame_inside : (w h : ℕ) → Inside w h r → has_frame ink fraction r ≡ true → Inside w h (frame_of ink fraction r)
  frame_inside w h I t =
      let e = frame_ends I.wide I.high t in
      record { wide = e.0; high = e.1; right = omega (arith, e.2, I.right); bottom = omega (arith, e.3, I.bottom) }
