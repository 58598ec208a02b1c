-- What a page is once its questions were answered yes: every glyph box lies on the ink, so it can be read, and there is room for as many boxes.
use mathlib.Core.Path.{◌≡◌, sym}
use mathlib.Core.Bool.{◌&&◌}
use mathlib.Core.List.{List, [], ◌∷◌}
use Prim.Native.Nat.{ℕ, suc, ◌*◌, ◌≤◌}
use native.Mathlib.Nat.{mul-le-mul_right, mul_comm}
use native.Mathlib.Omega.{arith}
use lib.Dec.{leb}
use lib.Ieee.{Float}
use lib.ListN.{length}
use borrow.Author.Tests.{leb-true}
use Rattle.lists.proofs.Every.{and_first, and_second}
use Rattle.questions.specs.Questions.{first_missed}
use Rattle.questions.proofs.FirstMissed.{all_yes, none_missed, yes_parts}
use Rattle.rects.specs.Rects.{count, rect_at}
use Rattle.rects.specs.Steps.{AllInside}
use Rattle.rects.specs.declared.Rect.{Rect}
use Rattle.rects.proofs.Questions.{Inside, all_inside_says}
use Rattle.layout.proofs.Answers.{sides_say, raster_yes}
use Rattle.params.specs.declared.settings.RulingsParams.{RulingsParams}
use Rattle.params.specs.Scan.{dpi_given, xheight_in_range, xheight_questions}
use Rattle.params.specs.Settings.{settings_questions}
use Rattle.params.specs.Steps.{SettingsPassed}
use Rattle.params.proofs.Passed.{settings_passed}
use Rattle.ink.specs.Steps.{Readable}
use Rattle.glyph_tests.specs.Limits.{box_limits_of}
use Rattle.boxes.specs.Call.{Given, Lent, has_room, given_questions, questions}
use Rattle.box_lists.specs.Steps.{Ready}

-- a rectangle inside the picture can be read
readable : (mask : List ℕ) (w h : ℕ) (r : Rect) → w ≤ 8192 → h ≤ 8192 → length mask ≡ w * h → Inside w h r → Readable (record { bytes = mask; w = w }) r
readable mask w h r a b full I =
    let rows : suc r.y1 * w ≤ h * w = mul-le-mul_right w I.bottom in
    record { narrow = a; low = omega (arith, I.bottom); wide = I.wide; high = I.high; right = I.right; bottom = omega (arith, mul_comm h w) }

-- what the core needs, from plain facts: whoever asked the questions that show them, in whatever order and among whatever others
pub ready : (w h dpi : ℕ) (xheight : Float) (mask glyphs : List ℕ) (p : RulingsParams) {lent : Lent}
    → w ≤ 8192 → h ≤ 8192 → length mask ≡ w * h → AllInside w h glyphs → SettingsPassed p xheight
    → 4 * count glyphs ≤ length lent.rects → count glyphs ≤ length lent.marks → count glyphs ≤ length lent.coverages
    → Ready mask w glyphs (box_limits_of dpi xheight p) lent
unfolding box_limits_of
ready w h dpi xheight mask glyphs p a b full inside S rects marks coverages =
    record {
      readable = λ k l. readable mask w h (rect_at glyphs k) a b full (inside k l);
      tolerance = (settings_passed p S.settings).0.shares.box_tolerance_px;
      rects = rects;
      marks = marks;
      coverages = coverages;
    }

-- a page that `boxes` accepts
pub accepted_ready : (g : Given) (l : Lent) → 0 ≡ first_missed (questions g l)
    → Ready g.ink g.w g.glyphs (box_limits_of g.dpi g.xheight g.settings) l
accepted_ready g l none =
    let parts = yes_parts (given_questions g) ((14, has_room g l) ∷ []) (all_yes (questions g l) tt (sym none)) in
    let yes = parts.0 in
    let sides = sides_say g.w g.h yes.0 in
    let n = count g.glyphs in
    let a = leb (4 * n) (length l.rects) in
    let b = leb n (length l.marks) in
    let c = leb n (length l.coverages) in
    let ab = and_first (a && b) c parts.1.0 in
    let settled : SettingsPassed g.settings g.xheight = record {
      settings = none_missed (settings_questions g.settings) yes.1.1.1.1.1;
      xheight_passed = none_missed (xheight_questions g.xheight) (and_second (dpi_given g.dpi) (xheight_in_range g.xheight) yes.1.0, tt);
    } in
    ready g.w g.h g.dpi g.xheight g.ink g.glyphs g.settings sides.0 sides.1 (raster_yes g.w g.h (length g.ink) yes.1.1.0)
    (all_inside_says g.w g.h g.glyphs yes.1.1.1.1.0) settled
    (leb-true (4 * n) (length l.rects) (and_first a b ab)) (leb-true n (length l.marks) (and_second a b ab))
    (leb-true n (length l.coverages) (and_second (a && b) c parts.1.0))
