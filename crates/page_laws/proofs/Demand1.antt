-- What a call leaves is a function of the page and of what the lists held, so two calls leave the same.
use mathlib.Core.Path.{◌≡◌, refl, sym, ap, ap₂, subst, ◌∙◌}
use mathlib.Core.Bool.{Bool, cond, ◌&&◌}
use mathlib.Core.Logic.{inl, inr}
use mathlib.Core.List.{List, [], ◌∷◌, ◌++◌, map}
use Prim.Native.Nat.{ℕ, zero, suc, ◌+◌, ◌*◌, ◌<◌}
use native.Mathlib.Omega.{arith}
use lib.Dec.{leb, eqb}
use lib.ListN.{length, get_or}
use Rattle.lists.specs.Lists.{concat, written, every_below}
use Rattle.sets.specs.Listing.{ends_from}
use Rattle.questions.specs.Questions.{first_missed}
use Rattle.rects.specs.Rects.{count}
use Rattle.layout.specs.Sides.{raster_fits}
use Rattle.evidence.specs.Finding.{row_of}
use Rattle.finding_lists.specs.Columns.{rect_of, fact, score}
use Rattle.findings.specs.Made.{every_finite}
use Rattle.page.specs.Page as Page
use Rattle.page.specs.Page.{Page}
use Rattle.page.specs.Lent.{RuleLists, MarkLists, Lent, rulings_fit, tables_fit, boxes_fit, findings_fit, work_fits}
use Rattle.page.specs.Questions.{all_questions, roomy, given_questions}
use Rattle.page.specs.Answer.{accepted, refusal}
use Rattle.page.specs.Call.{Answers, RuleAnswers, MarkAnswers, counts_of}
use Rattle.page_laws.specs.Demand1.{rules_answered, marks_answered, SameAnswers, work_room, Demand1}

-- a list that is written from the front keeps what two held alike
alike : {A : Type 0} (xs : List A) {l l' m m' : List A} → l' ≡ written xs l → m' ≡ written xs m → l ≡ m → l' ≡ m'
alike xs e f h = e ∙ ap (written xs) h ∙ sym f

every_same : (n : ℕ) (p q : ℕ → Bool) → ((k : ℕ) → k < n → p k ≡ q k) → every_below n p ≡ every_below n q
unfolding every_below
every_same zero p q h = refl
every_same (suc n) p q h = ap₂ ◌&&◌ (every_same n p q (λ k l. h k (omega arith))) (h n (omega arith))

module _ {l m : Lent} (S : SameAnswers l m) where
  raster_room : (w h : ℕ) → raster_fits w h (length l.rules.levelled) ≡ raster_fits w h (length m.rules.levelled)
  raster_room w h = ap (λ (x : RuleLists). raster_fits w h (length x.levelled)) S.rules

  findings_room : (n : ℕ) → findings_fit n l.found ≡ findings_fit n m.found
  findings_room n =
      ap₂ ◌&&◌
      (ap₂ ◌&&◌ (ap (λ (x : List ℕ). leb (4 * n) (length x)) S.rects)
      (every_same 4 (λ k. leb n (length (get_or l.found.facts k []))) (λ k. leb n (length (get_or m.found.facts k []))) (λ k h. ap (λ (x : List ℕ). leb n (length x)) (S.facts k h))))
      (every_same 8 (λ k. leb n (length (get_or l.found.scores k []))) (λ k. leb n (length (get_or m.found.scores k []))) (λ k h. ap (λ (x : List _). leb n (length x)) (S.scores k h)))

  work_room_lem : (n k : ℕ) → work_room l ≡ work_room m → work_fits n k l.rules l.marks ≡ work_fits n k m.rules m.marks
  work_room_lem n k e =
      ap (λ (x : List ℕ). leb n (get_or x 0 0) && leb n (get_or x 1 0) && leb n (get_or x 2 0) && leb n (get_or x 3 0) && leb n (get_or x 4 0) && leb k (get_or x 5 0) && leb k (get_or x 6 0) && leb k (get_or x 7 0)) e

  room_same : (g : Page) → work_room l ≡ work_room m → roomy g l ≡ roomy g m
  room_same g e =
      let n = count g.pieces in
      let k = count g.glyphs in
      ap₂ ◌&&◌
      (ap₂ ◌&&◌
      (ap₂ ◌&&◌ (ap₂ ◌&&◌ (ap₂ ◌&&◌ (raster_room g.sides.w g.sides.h) (ap (rulings_fit n) S.rules)) (ap (tables_fit n) S.rules)) (ap (boxes_fit k) S.marks))
      (findings_room (n + k)))
      (work_room_lem n k e)

-- the number of the first missed question
number_same : (g : Page) {l m : Lent} → SameAnswers l m → work_room l ≡ work_room m → first_missed (all_questions g l) ≡ first_missed (all_questions g m)
number_same g {l} {m} S e = ap (λ (t : Bool). first_missed (given_questions g ++ (14, t) ∷ [] ++ (15, every_finite (Page.made g)) ∷ [])) (room_same S g e)

module _ (g : Page) {l m : Lent} (l' m' : Lent) (S : SameAnswers l m) where
  rules_same : l'.rules.levelled ≡ m'.rules.levelled → RuleAnswers g l.rules l'.rules → RuleAnswers g m.rules m'.rules → rules_answered l'.rules ≡ rules_answered m'.rules
  rules_same r x y =
      λ i. record {
        levelled = r i;
        rects = alike (Page.rects g) x.rects y.rects (ap (λ (z : RuleLists). z.rects) S.rules) i;
        directions = alike (Page.directions g) x.directions y.directions (ap (λ (z : RuleLists). z.directions) S.rules) i;
        contrasts = alike (Page.contrasts g) x.contrasts y.contrasts (ap (λ (z : RuleLists). z.contrasts) S.rules) i;
        printed = alike (Page.printed g) x.printed y.printed (ap (λ (z : RuleLists). z.printed) S.rules) i;
        faint = alike (Page.faint g) x.faint y.faint (ap (λ (z : RuleLists). z.faint) S.rules) i;
        piece_members = alike (concat (Page.piece_sets g)) x.piece_members y.piece_members (ap (λ (z : RuleLists). z.piece_members) S.rules) i;
        piece_ends = alike (ends_from 0 (Page.piece_sets g)) x.piece_ends y.piece_ends (ap (λ (z : RuleLists). z.piece_ends) S.rules) i;
        bounds = alike (Page.bounds g) x.bounds y.bounds (ap (λ (z : RuleLists). z.bounds) S.rules) i;
        rows = alike (Page.rows g) x.rows y.rows (ap (λ (z : RuleLists). z.rows) S.rules) i;
        columns = alike (Page.columns g) x.columns y.columns (ap (λ (z : RuleLists). z.columns) S.rules) i;
        rulings = alike (Page.rulings g) x.rulings y.rulings (ap (λ (z : RuleLists). z.rulings) S.rules) i;
        shares = alike (Page.shares g) x.shares y.shares (ap (λ (z : RuleLists). z.shares) S.rules) i;
        free = alike (Page.free g) x.free y.free (ap (λ (z : RuleLists). z.free) S.rules) i;
        printed_members = alike (concat (Page.printed_sets g)) x.printed_members y.printed_members (ap (λ (z : RuleLists). z.printed_members) S.rules) i;
        printed_ends = alike (ends_from 0 (Page.printed_sets g)) x.printed_ends y.printed_ends (ap (λ (z : RuleLists). z.printed_ends) S.rules) i;
        numbers = alike (Page.table_numbers g) x.numbers y.numbers (ap (λ (z : RuleLists). z.numbers) S.rules) i;
        parents = [];
        listed = [];
        listed_ends = [];
        order = [];
        keys = [];
      }

  marks_same : MarkAnswers g l.marks l'.marks → MarkAnswers g m.marks m'.marks → marks_answered l'.marks ≡ marks_answered m'.marks
  marks_same x y =
      λ i. record {
        boxes = alike (Page.box_rects g) x.boxes y.boxes (ap (λ (z : MarkLists). z.boxes) S.marks) i;
        marks = alike (Page.marks g) x.marks y.marks (ap (λ (z : MarkLists). z.marks) S.marks) i;
        coverages = alike (Page.coverages g) x.coverages y.coverages (ap (λ (z : MarkLists). z.coverages) S.marks) i;
        reading = alike (Page.reading g) x.reading y.reading (ap (λ (z : MarkLists). z.reading) S.marks) i;
        members = alike (concat (Page.box_sets g)) x.members y.members (ap (λ (z : MarkLists). z.members) S.marks) i;
        ends = alike (ends_from 0 (Page.box_sets g)) x.ends y.ends (ap (λ (z : MarkLists). z.ends) S.marks) i;
        numbers = alike (Page.grid_numbers g) x.numbers y.numbers (ap (λ (z : MarkLists). z.numbers) S.marks) i;
        parents = [];
        order = [];
        keys = [];
      }

  lists_same : l'.rules.levelled ≡ m'.rules.levelled → Answers g l l' → Answers g m m' → SameAnswers l' m'
  lists_same r x y =
      let rows = map row_of (Page.findings g) in
      record {
        rules = rules_same r x.rules y.rules;
        marks = marks_same x.marks y.marks;
        rects = alike (concat (map rect_of rows)) x.found.rects y.found.rects S.rects;
        facts = λ k h. alike (map (fact k) rows) (x.found.facts k h) (y.found.facts k h) (S.facts k h);
        scores = λ k h. alike (map (score k) rows) (x.found.scores k h) (y.found.scores k h) (S.scores k h);
      }

pub demand_1 : Demand1
demand_1 g l l' m m' a b S e D E =
    record {
      answer = D.counts ∙ ap (λ (k : ℕ). cond (eqb k 0) (accepted (counts_of g) (length (Page.findings g))) (refusal k)) same ∙ sym E.counts;
      lists = lists a.number refl;
      raster = λ h. (D.raster (inr h)).0 ∙ sym (E.raster (inr (sym same ∙ h))).0;
    }
  where
    same : a.number ≡ b.number
    same = D.number ∙ number_same g S e ∙ sym E.number

    lists : (k : ℕ) → a.number ≡ k → (a.number ≡ 15 → ⊥) → SameAnswers l' m'
    lists zero h not-15 =
        let f : b.number ≡ 0 = sym same ∙ h in
        lists_same g l' m' S ((D.raster (inl h)).0 ∙ sym (E.raster (inl f)).0) (D.answers h) (E.answers f)
    lists (suc k) h not-15 =
        let p = D.refused (λ z. omega arith) not-15 in
        let q = E.refused (λ z. let f = same in omega arith) (λ z. not-15 (same ∙ z)) in
        subst (λ (x : Lent). SameAnswers x m') (sym p) (subst (SameAnswers l) (sym q) S)
