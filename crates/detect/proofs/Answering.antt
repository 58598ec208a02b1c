-- The call as a whole: a refused page leaves every list, an accepted one holds the answers.
use mathlib.Core.Path.{◌≡◌, refl, sym, ap, subst, ◌∙◌}
use mathlib.Core.Bool.{Bool, true, false, cond, ◌&&◌}
use mathlib.Core.Logic.{⊎_elim}
use mathlib.Core.List.{List, [], ◌∷◌}
use Prim.Native.Nat.{ℕ, ◌<◌}
use native.Mathlib.Omega.{arith}
use lib.Dec.{eqb, ltb}
use lib.ListN.{length}
use borrow.Author.Tests.{eq-eqb, ne_eqb, ltb-true}
use Rattle.lists.proofs.Every.{and_first, and_second}
use Rattle.questions.specs.Questions.{Question, first_missed}
use Rattle.questions.proofs.FirstMissed.{in_two_parts, all_yes, none_missed, yes_parts}
use Rattle.layout.specs.Level.{Levelling}
use Rattle.layout.proofs.Levelling.{levelled_is}
use Rattle.params.specs.Limits.{across_limit, gap_limit, align_limit}
use Rattle.params.proofs.Limits as Params
use Rattle.ink.specs.Ink.{ink_at}
use Rattle.segments.proofs.Demand as Segments
use Rattle.ruling_lists.proofs.Rectangles.{all_wider}
use Rattle.tables.proofs.Demand as Tables
use Rattle.glyph_tests.specs.Limits.{box_limits_of}
use Rattle.box_lists.proofs.EveryBox.{every_box}
use Rattle.grids.proofs.Demand as Grids
use Rattle.findings.specs.Made.{every_finite}
use Rattle.page.specs.declared.answer.Answer.{Answer}
use Rattle.page.specs.declared.counts.Counts.{Counts}
use Rattle.page.specs.Page as Page
use Rattle.page.specs.Page.{Page}
use Rattle.page.specs.Lent.{Lent}
use Rattle.page.specs.Questions.{given_questions, roomy, first_questions}
use Rattle.page.specs.Answer.{accepted, refusal}
use Rattle.page.specs.Call.{counts_of, Detect}
use Rattle.read_page.proofs.Known.{known}
use Rattle.detect.specs.Steps.{Passed, Found}

-- ---- the numbers of the first questions are below 15

abbrev lows : List Question → Bool
lows [] = true
lows (q ∷ qs) = ltb q.0 15 && lows qs

low : (qs : List Question) → lows qs ≡ true → first_missed qs < 15
low [] t = omega arith
low ((n, true) ∷ qs) t = low qs (and_second (ltb n 15) (lows qs) t)
low ((n, false) ∷ qs) t = ltb-true n 15 (and_first (ltb n 15) (lows qs) t)

module _ (g : Page) (l : Lent) where
  -- ---- refused

  pub refused : {q : ℕ} {a : Answer} → a ≡ refusal q → q ≡ first_missed (first_questions g l) → (q ≡ 0 → ⊥) → Detect g l l a
  refused {q} {a} e f n =
      let number : a.number ≡ q = ap (λ (x : Answer). x.number) e in
      let small : first_missed (first_questions g l) < 15 = low (first_questions g l) refl in
      record {
        number =
            number ∙ f
            ∙ sym (in_two_parts (first_questions g l) ((15, every_finite (Page.made g)) ∷ []) tt
            ∙ ap (λ (b : Bool). cond b (first_missed ((15, every_finite (Page.made g)) ∷ [])) (first_missed (first_questions g l))) (ne_eqb (first_missed (first_questions g l)) 0 (λ z. n (f ∙ z))));
        counts = subst (λ (x : Answer). x ≡ cond (eqb x.number 0) (accepted (counts_of g) (length (Page.findings g))) (refusal x.number)) (sym e) (sym (ap (λ (b : Bool). cond b (accepted (counts_of g) (length (Page.findings g))) (refusal q)) (ne_eqb q 0 n)));
        refused = λ _ _. refl;
        raster = ⊎_elim (λ (z : a.number ≡ 0). absurd (n (sym number ∙ z))) (λ (z : a.number ≡ 15). absurd (omega (arith, small, sym f ∙ sym number ∙ z)));
        answers = λ z. absurd (n (sym number ∙ z));
        limits = λ z. absurd (n (sym number ∙ z));
        rulings = λ z. absurd (n (sym number ∙ z));
        demand3 = λ z. absurd (n (sym number ∙ z));
      }

  -- a page that misses one of questions 1 to 13
  pub first_missed_lem : {q : ℕ} → q ≡ first_missed (given_questions g) → (q ≡ 0 → ⊥) → q ≡ first_missed (first_questions g l)
  first_missed_lem {q} e n =
      e ∙ sym (in_two_parts (given_questions g) ((14, roomy g l) ∷ []) tt ∙ ap (λ (b : Bool). cond b (first_missed ((14, roomy g l) ∷ [])) (first_missed (given_questions g))) (ne_eqb (first_missed (given_questions g)) 0 (λ z. n (e ∙ z))))

  passed_given : first_missed (given_questions g) ≡ 0 → first_missed (first_questions g l) ≡ cond (roomy g l) 0 14
  passed_given z = in_two_parts (given_questions g) ((14, roomy g l) ∷ []) tt ∙ ap (λ (b : Bool). cond b (first_missed ((14, roomy g l) ∷ [])) (first_missed (given_questions g))) (eq-eqb (first_missed (given_questions g)) 0 z)

  -- a page that misses question 14
  pub room_missed : first_missed (given_questions g) ≡ 0 → roomy g l ≡ false → 14 ≡ first_missed (first_questions g l)
  room_missed z r = sym (passed_given z ∙ ap {B = ℕ} (λ (b : Bool). cond b 0 14) r)

  -- a page that misses none of questions 1 to 14
  pub passed : first_missed (first_questions g l) ≡ 0 → Passed g l
  passed z =
      let y = yes_parts (given_questions g) ((14, roomy g l) ∷ []) (all_yes (first_questions g l) tt z) in
      record { given = none_missed (given_questions g) y.0; room = y.1.0 }

  -- ---- accepted, or 15

  -- the number and the counts, as question 15 is answered
  number_of : (b : Bool) (n : Counts) (c : ℕ) {a : Answer} → a ≡ cond b (accepted n c) (refusal 15) → a.number ≡ cond b 0 15
  number_of true n c e = ap (λ (x : Answer). x.number) e
  number_of false n c e = ap (λ (x : Answer). x.number) e

  counted : (b : Bool) (n : Counts) (c : ℕ) {a : Answer} → a ≡ cond b (accepted n c) (refusal 15) → a ≡ cond (eqb a.number 0) (accepted n c) (refusal a.number)
  counted true n c {a} e = subst (λ (x : Answer). x ≡ cond (eqb x.number 0) (accepted n c) (refusal x.number)) (sym e) refl
  counted false n c {a} e = subst (λ (x : Answer). x ≡ cond (eqb x.number 0) (accepted n c) (refusal x.number)) (sym e) refl

  pub answered : {l' : Lent} {n : Counts} {c : ℕ} {finite : Bool} {a : Answer} → first_missed (first_questions g l) ≡ 0 → Found g l l' n c finite → a ≡ cond finite (accepted n c) (refusal 15) → Detect g l l' a
  answered {l'} {n} {c} {finite} {a} z W s =
      let K = known g (passed z).given in
      let D = W.rules in
      let M = W.marks in
      let F = W.found in
      let many : c ≡ length (Page.findings g) = F.number ∙ sym F.paired.order.1.as_many in
      let e = W.counts in
      let s' : a ≡ cond finite (accepted (counts_of g) (length (Page.findings g))) (refusal 15) = s ∙ (λ i. cond finite (accepted (e i) (many i)) (refusal 15)) in
      let P = Params.limits g.settings g.xheight K.settled in
      let number : a.number ≡ cond finite 0 15 = number_of finite (counts_of g) (length (Page.findings g)) s' in
      record {
        number =
            number
            ∙ ap {B = ℕ} (λ (b : Bool). cond b 0 15) F.found.all_finite
            ∙ sym (in_two_parts (first_questions g l) ((15, every_finite (Page.made g)) ∷ []) tt
            ∙ ap (λ (b : Bool). cond b (first_missed ((15, every_finite (Page.made g)) ∷ [])) (first_missed (first_questions g l))) (eq-eqb (first_missed (first_questions g l)) 0 z));
        counts = counted finite (counts_of g) (length (Page.findings g)) s';
        refused = λ not0 not15. absurd (neither finite not0 not15 number);
        raster = λ _. (D.levelled, subst (Levelling g.sides g.gray g.shear g.shear_x) (sym D.levelled) (levelled_is g.sides g.shear g.shear_x K.sheared g.gray));
        answers = λ _. record { rules = D.answers; marks = M.answers; found = F.found.lists };
        limits = λ _. record { across = P.across.is; gap = P.gap.is; join = P.join.is; line = P.line.is; align = P.align.is };
        rulings = λ _. record {
          order = Segments.in_order g.pieces (across_limit g.settings g.xheight) (gap_limit g.settings g.xheight) (all_wider g.pieces K.sides.w_most K.sides.h_most K.pieces);
          near = D.near;
        };
        demand3 = λ _. record {
          pieces = Segments.demand g.pieces (across_limit g.settings g.xheight) (gap_limit g.settings g.xheight);
          pieces_read = D.pieces_read;
          printed = Tables.demand3 (Page.rects g) (Page.directions g) (Page.printed g) (Page.table_limits g);
          printed_read = D.printed_read;
          every_box = every_box (ink_at g.sides.w g.ink) (box_limits_of g.dpi g.xheight g.settings) g.glyphs;
          boxes = Grids.demand3 (Page.box_rects g) (align_limit g.settings g.xheight) g.settings.grid_min_boxes;
          boxes_read = M.boxes_read;
          reading_read = M.reading_read;
          findings = F.paired;
        };
      }
    where
      neither : (b : Bool) {k : ℕ} → (k ≡ 0 → ⊥) → (k ≡ 15 → ⊥) → k ≡ cond b 0 15 → ⊥
      neither true x y e = x e
      neither false x y e = y e
