-- Every glyph box that is not passed over has its box, in order, and no other has one, since a test keeps its place among the numbers below the count.
-- A box has the frame of its glyph box, and so lies in every picture that the glyph boxes lie in.
use mathlib.Core.Path.{◌≡◌, refl, sym, ap, subst, ◌∙◌}
use mathlib.Core.Bool.{Bool, true, false, cond, not, ◌||◌, true≢false}
use mathlib.Core.Logic.{⊎_elim}
use mathlib.Core.List.{List, [], ◌∷◌, ◌++◌, map}
use Prim.Native.Nat.{ℕ, zero, suc, ◌+◌, ◌*◌, ◌≤◌, ◌<◌}
use native.Mathlib.Nat.{eq-or-lt_of_le}
use native.Mathlib.Numerals.{add-one}
use native.Mathlib.Omega.{arith}
use lib.ListN.{length, get_or, length-append, length-map, get_or-append}
use lib.Seq.{get_or_at}
use borrow.Author.Tests.{not-true}
use Rattle.lists.specs.Lists.{In, below, keep}
use Rattle.lists.proofs.Keep.{map_append, keep_append, length_below, kept_in, in_kept, in_below, below_in, at_in, get_d_map}
use Rattle.lists.proofs.Sizes.{keep_size_le, keep_one, keep_past}
use Rattle.rects.specs.Rects.{width_of, height_of, count, rect_at}
use Rattle.rects.specs.Steps.{Inside, AllInside}
use Rattle.rects.specs.declared.Rect.{Rect}
use Rattle.rects.proofs.Questions.{has_numbers}
use Rattle.rects.proofs.Strung.{strung_long, strung_at}
use Rattle.ink.specs.Ink.{Ink}
use Rattle.glyph_tests.specs.declared.limits.Limits.{Limits}
use Rattle.glyph_tests.specs.declared.found.CheckBox.{CheckBox}
use Rattle.std.specs.Prelude.{Some, None}
use Rattle.glyph_tests.specs.Tests.{size_missed, has_frame}
use Rattle.glyph_tests.specs.Glyph.{frame_missed, box_in, trimmed, passed_over, box_of}
use Rattle.box_lists.specs.Boxes.{chosen, boxes_below, boxes_of, Ascends, EveryBox, frames_of}
use Rattle.glyph_tests.specs.Steps.{found_of}
use Rattle.box_lists.specs.Steps.{listed}
use Rattle.glyph_tests.proofs.Frames.{frame_inside}

-- ---- the places ascend

ascends_more : (s : List ℕ) (x : ℕ) → Ascends s → ((y : ℕ) → In s y → y < x) → Ascends (s ++ (x ∷ []))
ascends_more s x A less j k l h =
    let long = length-append s (x ∷ []) in
    let first : get_or (s ++ (x ∷ [])) j 0 ≡ get_or s j 0 = get_or-append s (x ∷ []) 0 j (omega arith) in
    ⊎_elim
    (λ (e : k ≡ length s).
    let last = get_or_at s x [] 0 k (sym e) in
    let under = less (get_or s j 0) (at_in s j (omega arith)) in
    omega arith)
    (λ (m : k < length s).
    let second = get_or-append s (x ∷ []) 0 k m in
    let under = A j k l m in
    omega arith)
    (eq-or-lt_of_le {n = k} {m = length s} (omega arith))

-- the numbers below n that pass a test ascend
kept_ascends : (q : ℕ → Bool) (n : ℕ) → Ascends (keep q (below n))
kept_ascends q zero = λ j k l h. absurd (omega arith)
kept_ascends q (suc n) = go (q n) refl (kept_ascends q n)
  where
    go : (b : Bool) → q n ≡ b → Ascends (keep q (below n)) → Ascends (keep q (below (suc n)))
    go true e A = rw (keep_one q n e) (ascends_more (keep q (below n)) n A (λ y m. below_in n y (kept_in q (below n) y m).0))
    go false e A = rw (keep_past q n e) A

-- ---- the boxes of the first glyph boxes, and of all

module _ (ink : Ink) (l : Limits) (glyphs : List ℕ) where
  abbrev box_at : ℕ → CheckBox
  box_at k = box_of ink l (rect_at glyphs k)

  abbrev stays : ℕ → Bool
  stays k = not (passed_over ink l (rect_at glyphs k))

  pub boxes_next : (k : ℕ) → boxes_below ink l glyphs (k + 1) ≡ boxes_below ink l glyphs k ++ listed (found_of ink l (rect_at glyphs k))
  unfolding boxes_below found_of
  boxes_next k =
      rw (add-one k) (ap (map box_at) (keep_append stays (below k) (k ∷ [])) ∙ map_append box_at (keep stays (below k)) (keep stays (k ∷ []))
      ∙ ap (λ (t : List CheckBox). map box_at (keep stays (below k)) ++ t) (go (passed_over ink l (rect_at glyphs k))))
    where
      go : (b : Bool) → map box_at (cond (not b) (k ∷ []) []) ≡ listed (cond b None (Some (box_at k)))
      go true = refl
      go false = refl

  pub boxes_none : boxes_below ink l glyphs 0 ≡ []
  unfolding boxes_below
  boxes_none = refl

  pub boxes_few : (k : ℕ) → length (boxes_below ink l glyphs k) ≤ k
  unfolding boxes_below
  boxes_few k = omega (arith, length-map (keep stays (below k)) box_at, keep_size_le stays (below k), length_below k)

  pub every_box : EveryBox ink l glyphs (chosen ink l glyphs (count glyphs)) (boxes_of ink l glyphs)
  unfolding boxes_below
  every_box =
      record {
        ascending = kept_ascends stays (count glyphs);
        no_other = λ k m. let t = kept_in stays (below (count glyphs)) k m in (below_in (count glyphs) k t.0, not-true (passed_over ink l (rect_at glyphs k)) t.1);
        each = λ k h f. in_kept stays (below (count glyphs)) k (in_below (count glyphs) k h) (ap not f);
        as_many = length-map (chosen ink l glyphs (count glyphs)) box_at;
        box = λ k past h. get_d_map box_at (chosen ink l glyphs (count glyphs)) k past h;
      }

-- ---- where the boxes lie

pub rectangles_long : (bs : List CheckBox) → length (frames_of bs) ≡ 4 * length bs
rectangles_long = strung_long (λ (b : CheckBox). b.bbox)

module _ (ink : Ink) (l : Limits) (w h : ℕ) where
  -- what is not passed over has a frame
  has_frame_lem : (r : Rect) → passed_over ink l r ≡ false → has_frame ink l.box_overshoot_fraction r ≡ true
  unfolding passed_over
  has_frame_lem r f = go (size_missed (width_of r) (height_of r) l.min_size l.slack) (has_frame ink l.box_overshoot_fraction r) (frame_missed ink l (trimmed ink l r)) f
    where
      go : (a b c : Bool) → a || not b || c ≡ false → b ≡ true
      go true b c e = absurd (true≢false e)
      go false true c e = refl
      go false false c e = absurd (true≢false e)

  box_inside : (r : Rect) → Inside w h r → passed_over ink l r ≡ false → Inside w h (box_of ink l r).bbox
  unfolding box_in
  box_inside r I f = frame_inside ink l.box_overshoot_fraction r w h I (has_frame_lem r f)

  pub boxes_inside : (glyphs : List ℕ) → AllInside w h glyphs → AllInside w h (frames_of (boxes_of ink l glyphs))
  boxes_inside glyphs inside k m =
      let bs = boxes_of ink l glyphs in
      let ks = chosen ink l glyphs (count glyphs) in
      let E = every_box ink l glyphs in
      let place = get_or ks k 0 in
      let past = box_of ink l (rect_at glyphs place) in
      let here : k < length bs = omega (arith, rectangles_long bs, has_numbers (length (frames_of bs)) k m) in
      let listed : k < length ks = omega (arith, E.as_many) in
      let glyph = E.no_other place (at_in ks k listed) in
      let is : rect_at (frames_of bs) k ≡ past.bbox = strung_at (λ (b : CheckBox). b.bbox) bs k past here ∙ ap (λ (b : CheckBox). b.bbox) (E.box k past listed) in
      subst (Inside w h) (sym is) (box_inside (rect_at glyphs place) (inside place glyph.0) glyph.1)
