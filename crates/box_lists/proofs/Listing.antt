-- The boxes, one glyph box after the other: nothing or one box more a turn, stored behind those that are there.
use mathlib.Core.Path.{◌≡◌, refl, sym, ap, ap₂, subst, ◌∙◌}
use mathlib.Core.List.{List, ◌++◌, map}
use Prim.Native.Nat.{ℕ, ◌+◌, ◌*◌, ◌≤◌, ◌<◌, zero-le}
use native.Mathlib.Nat.{le_refl}
use native.Mathlib.Numerals.{add-one}
use native.Mathlib.Decide.{le_ind}
use native.Mathlib.Omega.{arith}
use lib.ListN.{length, length-append, length-map}
use lib.Seq.{sets, length-sets}
use Rattle.std.specs.Int.{from_bool}
use Rattle.lists.specs.Lists.{concat, written}
use Rattle.lists.proofs.Keep.{map_append, concat_append}
use Rattle.lists.proofs.Written.{written_run}
use Rattle.rects.specs.Rects.{count, rect_at, numbers_of}
use Rattle.rects.specs.declared.Rect.{Rect}
use Rattle.ink.specs.Ink.{ink_at}
use Rattle.glyph_tests.specs.declared.limits.Limits.{Limits}
use Rattle.glyph_tests.specs.declared.found.CheckBox.{CheckBox}
use Rattle.std.specs.Prelude.{Option, Some, None}
use Rattle.box_lists.specs.Boxes.{boxes_below, frames_of, marks_of, coverages_of}
use Rattle.box_lists.specs.Lent.{Lent}
use Rattle.glyph_tests.specs.Steps.{found_of}
use Rattle.box_lists.specs.Steps.{listed, RoomAt, Stored, Ready, Made}
use Rattle.box_lists.proofs.EveryBox.{boxes_next, boxes_none, boxes_few, rectangles_long, boxes_inside}

-- ---- nothing was found: nothing is stored

pub stored_none : {n : ℕ} {lent : Lent} → Stored None n lent lent n
stored_none = record { rects = refl; marks = refl; coverages = refl; number = omega arith }

listed_few : (f : Option CheckBox) → length (listed f) ≤ 1
listed_few None = zero-le
listed_few (Some b) = omega arith

rectangles_append : (xs ys : List CheckBox) → frames_of (xs ++ ys) ≡ frames_of xs ++ frames_of ys
rectangles_append xs ys =
    let numbers : CheckBox → List ℕ = λ b. numbers_of b.bbox in
    ap concat (map_append numbers xs ys) ∙ concat_append (map numbers xs) (map numbers ys)

-- a run of stores behind what is there
run_written : {A : Type 0} (t xs lent : List A) {l l' ys : List A} {at : ℕ} → l ≡ written xs lent → at ≡ length xs → at + length t ≤ length lent → l' ≡ sets l at t → ys ≡ xs ++ t → l' ≡ written ys lent
run_written {A} t xs lent {l} {l'} {ys} {at} e a h s f =
    s ∙ ap₂ (λ (w : List A) (i : ℕ). sets w i t) e a ∙ written_run t xs lent (omega arith) ∙ ap (λ (w : List A). written w lent) (sym f)

-- ---- the loop

module _ (mask : List ℕ) (w : ℕ) (glyphs : List ℕ) (l : Limits) where
  abbrev bs : ℕ → List CheckBox
  bs = boxes_below (ink_at w mask) l glyphs

  -- after k glyph boxes
  pub record Finding (lent now : Lent) (n k : ℕ) : Type 0 where
    pub up_to : k ≤ count glyphs
    pub number : n ≡ length (bs k)
    pub rects_long : length now.rects ≡ length lent.rects
    pub marks_long : length now.marks ≡ length lent.marks
    pub coverages_long : length now.coverages ≡ length lent.coverages
    pub rects : now.rects ≡ written (frames_of (bs k)) lent.rects
    pub marks : now.marks ≡ written (marks_of (bs k)) lent.marks
    pub coverages : now.coverages ≡ written (coverages_of (bs k)) lent.coverages

  pub begun : (lent : Lent) → Finding lent lent 0 0
  begun lent =
      let e = boxes_none (ink_at w mask) l glyphs in
      record {
        up_to = zero-le;
        number = sym (ap length e);
        rects_long = refl;
        marks_long = refl;
        coverages_long = refl;
        rects = sym (ap (λ (b : List CheckBox). written (frames_of b) lent.rects) e);
        marks = sym (ap (λ (b : List CheckBox). written (marks_of b) lent.marks) e);
        coverages = sym (ap (λ (b : List CheckBox). written (coverages_of b) lent.coverages) e);
      }

  module _ {lent now : Lent} (R : Ready mask w glyphs l lent) {n k : ℕ} (F : Finding lent now n k) (h : k < count glyphs) where
    few : n ≤ k
    few = omega (arith, F.number, boxes_few (ink_at w mask) l glyphs k)

    pub room : RoomAt n now
    room =
        record {
          rects = omega (arith, few, F.rects_long, R.rects);
          marks = omega (arith, few, F.marks_long, R.marks);
          coverages = omega (arith, few, F.coverages_long, R.coverages);
        }

    pub turn : {next : Lent} {n' : ℕ} {r : Rect} {found : Option CheckBox} → r ≡ rect_at glyphs k → found ≡ found_of (ink_at w mask) l r → Stored found n now next n'
        → Finding lent next n' (k + 1)
    turn {next} {n'} {r} {found} e f S =
        let xs = bs k in
        let ys = listed found in
        let more : bs (k + 1) ≡ xs ++ ys = boxes_next (ink_at w mask) l glyphs k ∙ ap (λ (g : Option CheckBox). xs ++ listed g) (sym (f ∙ ap (found_of (ink_at w mask) l) e)) in
        let one = listed_few found in
        record {
          up_to = omega arith;
          number = S.number ∙ ap (λ (m : ℕ). m + length ys) F.number ∙ sym (ap length more ∙ length-append xs ys);
          rects_long = ap length S.rects ∙ length-sets now.rects (4 * n) (frames_of ys) ∙ F.rects_long;
          marks_long = ap length S.marks ∙ length-sets now.marks n (marks_of ys) ∙ F.marks_long;
          coverages_long = ap length S.coverages ∙ length-sets now.coverages n (coverages_of ys) ∙ F.coverages_long;
          rects =
              run_written (frames_of ys) (frames_of xs) lent.rects F.rects (omega (arith, F.number, rectangles_long xs)) (omega (arith, few, rectangles_long ys, R.rects)) S.rects
              (ap frames_of more ∙ rectangles_append xs ys);
          marks =
              run_written (marks_of ys) (marks_of xs) lent.marks F.marks (F.number ∙ sym (length-map xs (λ b. from_bool b.ticked))) (omega (arith, few, length-map ys (λ b. from_bool b.ticked), R.marks)) S.marks
              (ap marks_of more ∙ map_append (λ b. from_bool b.ticked) xs ys);
          coverages =
              run_written (coverages_of ys) (coverages_of xs) lent.coverages F.coverages (F.number ∙ sym (length-map xs (λ b. b.edge_coverage)))
              (omega (arith, few, length-map ys (λ b. b.edge_coverage), R.coverages)) S.coverages (ap coverages_of more ∙ map_append (λ b. b.edge_coverage) xs ys);
        }

  -- glyph boxes that are passed over
  pub skip : {lent now : Lent} {n k : ℕ} → Ready mask w glyphs l lent → Finding lent now n k → (r : ℕ) → k ≤ r → r ≤ count glyphs
      → ((j : ℕ) → k ≤ j → j < r → None ≡ found_of (ink_at w mask) l (rect_at glyphs j)) → Finding lent now n r
  skip {lent} {now} {n} {k} R F r h u passed =
      le_ind (λ (m : ℕ). m ≤ r → Finding lent now n m) (λ v. F)
      (λ m a ih v.
      subst (λ (x : ℕ). Finding lent now n x) (add-one m) (turn R (ih (omega arith)) (omega arith) refl (passed m a (omega arith)) stored_none)) r h
      (le_refl r)

  pub done : {lent now : Lent} {n k : ℕ} → Ready mask w glyphs l lent → Finding lent now n k → count glyphs ≤ k → Made mask w glyphs l lent now n
  done {lent} {now} {n} {k} R F h =
      let end : k ≡ count glyphs = omega (arith, F.up_to) in
      record {
        count = F.number ∙ ap (λ (j : ℕ). length (bs j)) end;
        rects = F.rects ∙ ap (λ (j : ℕ). written (frames_of (bs j)) lent.rects) end;
        marks = F.marks ∙ ap (λ (j : ℕ). written (marks_of (bs j)) lent.marks) end;
        coverages = F.coverages ∙ ap (λ (j : ℕ). written (coverages_of (bs j)) lent.coverages) end;
        few = omega (arith, F.number, F.up_to, boxes_few (ink_at w mask) l glyphs k);
        in_picture = λ h inside. boxes_inside (ink_at w mask) l w h glyphs inside;
        below_8192 = boxes_inside (ink_at w mask) l 8192 8192 glyphs (λ j m.
            let r = R.readable j m in record { wide = r.wide; high = r.high; right = omega (arith, r.right, r.narrow); bottom = r.low });
      }
