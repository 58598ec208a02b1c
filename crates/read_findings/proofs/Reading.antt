-- What was put is what is read: a row names its finding, and the lists hold the rows.
use mathlib.Core.Path.{◌≡◌, refl, ap, ap₂, subst, ◌∙◌}
use mathlib.Core.Bool.{Bool, true, false, cond, ◌&&◌}
use mathlib.Core.List.{List, [], ◌∷◌, map}
use Prim.Native.Nat.{ℕ, ◌+◌, ◌*◌, ◌≤◌, ◌<◌}
use native.Mathlib.Omega.{arith}
use borrow.Author.Tests.{ltb-true, lt-ltb}
use lib.Dec.{ltb}
use lib.Ieee.{Float, nan}
use lib.ListN.{length, get_or, drop, length-map, length-append}
use Rattle.lists.specs.Lists.{every_below, concat, written}
use Rattle.lists.proofs.Every.{and_both, and_first, and_second, every_at, every_of}
use Rattle.lists.proofs.Keep.{get_d_of}
use Rattle.lists.proofs.Written.{written_at}
use Rattle.rects.specs.declared.Rect.{Rect}
use Rattle.rects.specs.Rects.{count, rect_at}
use Rattle.evidence.specs.declared.finding.Evidence.{Evidence}
use Rattle.evidence.specs.declared.finding.Kind.{Kind}
use Rattle.evidence.specs.declared.finding.Kind.TheVariants.{Table, FreeRules, Grid, Fold}
use Rattle.evidence.specs.declared.finding.Finding.{Finding}
use Rattle.evidence.specs.declared.finding.Row.{Row}
use Rattle.evidence.specs.Finding.{row_with, row_of}
use Rattle.std.specs.Prelude.{Some, None}
use Rattle.finding_lists.specs.Columns.{Columns, rect_of, fact, score, AllWritten}
use Rattle.read_findings.specs.Steps.{Standing}
use Rattle.read_findings.specs.Read.{finding_with, finding_of, all_long, stands, fact_at, score_at, row_at, finding_at}
use Rattle.finding_lists.proofs.Placed.{concat_long, concat_at}

-- ---- the tests of the lists

-- a test and four others, one after the other
regrouped : (t a b c d : Bool) → t && (((a && b) && c) && d) ≡ (((t && a) && b) && c) && d
regrouped true a b c d = refl
regrouped false a b c d = refl

-- the scores are asked for in two halves
pub halves : (i : ℕ) (p q r s t u v w : List Float) → all_long 4 i (p ∷ q ∷ r ∷ s ∷ []) && all_long 4 i (t ∷ u ∷ v ∷ w ∷ []) ≡ all_long 8 i (p ∷ q ∷ r ∷ s ∷ t ∷ u ∷ v ∷ w ∷ [])
unfolding all_long every_below
halves i p q r s t u v w = regrouped (((ltb i (length p) && ltb i (length q)) && ltb i (length r)) && ltb i (length s)) (ltb i (length t)) (ltb i (length u)) (ltb i (length v)) (ltb i (length w))

-- all tests of a place
pub tests : (l : Columns) (n i : ℕ) {f s : Bool} → f ≡ all_long 4 i l.facts → s ≡ all_long 8 i l.scores
    → ltb i n && (ltb i (count l.rects) && f) && s ≡ ltb i n && stands l i
unfolding stands
tests l n i {f} {s} e g =
    grouped (ltb i n) (ltb i (count l.rects) && f) s ∙ ap₂ (λ (x y : Bool). ltb i n && (ltb i (count l.rects) && x && y)) e g
  where
    grouped : (a b c : Bool) → a && b && c ≡ a && (b && c)
    grouped true b c = refl
    grouped false b c = refl

pub standing_of : (l : Columns) (i : ℕ) → stands l i ≡ true → Standing l i
unfolding stands all_long
standing_of l i h =
    let in-rects = ltb-true i (count l.rects) (and_first _ _ (and_first _ _ h)) in
    record {
      rects = omega arith;
      facts = λ k q. ltb-true i (length (get_or l.facts k [])) (every_at 4 _ (and_second (ltb i (count l.rects)) _ (and_first _ _ h)) k q);
      scores = λ k q. ltb-true i (length (get_or l.scores k [])) (every_at 8 _ (and_second (ltb i (count l.rects) && all_long 4 i l.facts) _ h) k q);
    }

stands_of : (l : Columns) (i : ℕ) → Standing l i → stands l i ≡ true
unfolding stands all_long
stands_of l i S =
    and_both
    (and_both (lt-ltb i (count l.rects) (let r : 4 * i + 4 ≤ length l.rects = S.rects in omega arith))
    (every_of 4 _ (λ k q. lt-ltb i (length (get_or l.facts k [])) (S.facts k q))))
    (every_of 8 _ (λ k q. lt-ltb i (length (get_or l.scores k [])) (S.scores k q)))

-- ---- the row at a place

-- its rectangle and its evidences were read first
abbrev pub row_from : Columns → ℕ → Rect → Evidence → Evidence → Row
row_from l i r first second =
    record {
      bbox = record { x0 = r.x0; y0 = r.y0; x1 = r.x1; y1 = r.y1 };
      kind = fact_at l 0 i;
      a = fact_at l 1 i;
      b = fact_at l 2 i;
      c = fact_at l 3 i;
      log_odds = score_at l 0 i;
      first = first;
      second = second;
      length = score_at l 7 i;
    }

-- evidence from list k on
abbrev pub evidence_from : Columns → ℕ → ℕ → Evidence
evidence_from l k i = record { value = score_at l k i; threshold = score_at l (k + 1) i; llr = score_at l (k + 2) i }

pub row_from_lem : (l : Columns) (i : ℕ) {r : Rect} {e f : Evidence} → r ≡ rect_at l.rects i → e ≡ evidence_from l 1 i → f ≡ evidence_from l 4 i → row_from l i r e f ≡ row_at l i
unfolding row_at
row_from_lem l i {r} {e} {f} p q s = ap (λ (x : Rect). row_from l i x e f) p ∙ ap₂ (λ (x y : Evidence). row_from l i (rect_at l.rects i) x y) q s

-- ---- what was put is what is read

read_kind : (f : Finding) (k : Kind) → finding_of (row_with f k) ≡ Some (finding_with (row_with f k) k)
unfolding finding_of
read_kind f (Table rows columns rulings second) = refl
read_kind f (FreeRules horizontal vertical longest second) = refl
read_kind f (Grid boxes ticked second) = refl
read_kind f (Fold true length) = refl
read_kind f (Fold false length) = refl

-- the row of a finding names it
pub read_row : (f : Finding) → finding_of (row_of f) ≡ Some f
read_row f = read_kind f f.kind

module _ (rows : List Row) (none : Row) {l l' : Columns} (W : AllWritten rows l l') (i : ℕ) (h : i < length rows) where
  -- an entry of a list with an entry for each row
  entry : {A : Type 0} (f : Row → A) (d : A) (lent : List A) {out : List A} → out ≡ written (map f rows) lent → get_or out i d ≡ f (get_or rows i none)
  entry {A} f d lent e =
      ap (λ (s : List A). get_or s i d) e ∙ written_at (map f rows) lent i d (omega (arith, length-map rows f)) ∙ get_d_of f rows i d none h

  long : {A : Type 0} (xs lent : List A) {out : List A} → out ≡ written xs lent → length xs ≤ length out
  long xs lent e = let a = length-append xs (drop (length xs) lent) in omega (arith, ap length e)

  wide : (k : ℕ) → k < length (map rect_of rows) → length (get_or (map rect_of rows) k []) ≡ 4
  wide k q = ap length (get_d_of rect_of rows k [] none (let m = length-map rows rect_of in omega arith))

  numbers : length (concat (map rect_of rows)) ≡ 4 * length rows
  numbers = concat_long 0 4 (map rect_of rows) wide ∙ ap (λ (n : ℕ). 4 * n) (length-map rows rect_of)

  -- number r of rectangle i
  number : (r : ℕ) → r < 4 → get_or l'.rects (4 * i + r) 0 ≡ get_or (rect_of (get_or rows i none)) r 0
  number r q =
      ap (λ (s : List ℕ). get_or s (4 * i + r) 0) W.rects
      ∙ written_at (concat (map rect_of rows)) l.rects (4 * i + r) 0 (let n = numbers in omega arith)
      ∙ concat_at 0 4 (map rect_of rows) i r wide (let m = length-map rows rect_of in omega arith) q
      ∙ ap (λ (s : List ℕ). get_or s r 0) (get_d_of rect_of rows i [] none h)

  -- every list reaches the place
  pub written_stands : Standing l' i
  written_stands =
      record {
        rects = let n = numbers in let m = long (concat (map rect_of rows)) l.rects W.rects in omega arith;
        facts = λ k q. let n = length-map rows (fact k) in let m = long (map (fact k) rows) (get_or l.facts k []) (W.facts k q) in omega arith;
        scores = λ k q. let n = length-map rows (score k) in let m = long (map (score k) rows) (get_or l.scores k []) (W.scores k q) in omega arith;
      }

  whole : (k : ℕ) → k < 4 → fact_at l' k i ≡ fact k (get_or rows i none)
  whole k q = entry (fact k) 0 (get_or l.facts k []) (W.facts k q)

  float : (k : ℕ) → k < 8 → score_at l' k i ≡ score k (get_or rows i none)
  float k q = entry (score k) nan (get_or l.scores k []) (W.scores k q)

  -- the row read at a place is the row that was put there
  pub read_back : row_at l' i ≡ get_or rows i none
  unfolding row_at
  read_back =
      let e : 4 * i + 0 ≡ 4 * i = omega arith in
      let x0 : get_or l'.rects (4 * i) 0 ≡ (get_or rows i none).bbox.x0 = subst (λ (p : ℕ). get_or l'.rects p 0 ≡ (get_or rows i none).bbox.x0) e (number 0 (omega arith)) in
      λ j. record {
        bbox = record { x0 = x0 j; y0 = number 1 (omega arith) j; x1 = number 2 (omega arith) j; y1 = number 3 (omega arith) j };
        kind = whole 0 (omega arith) j;
        a = whole 1 (omega arith) j;
        b = whole 2 (omega arith) j;
        c = whole 3 (omega arith) j;
        log_odds = float 0 (omega arith) j;
        first = record { value = float 1 (omega arith) j; threshold = float 2 (omega arith) j; llr = float 3 (omega arith) j };
        second = record { value = float 4 (omega arith) j; threshold = float 5 (omega arith) j; llr = float 6 (omega arith) j };
        length = float 7 (omega arith) j;
      }

-- findings that were put are what is read
pub put_then_read : (fs : List Finding) (none : Finding) {l l' : Columns} → AllWritten (map row_of fs) l l' → (i : ℕ) → i < length fs → finding_at l' (length fs) i ≡ Some (get_or fs i none)
put_then_read fs none {l} {l'} W i h =
    let n = length-map fs row_of in
    let at : i < length (map row_of fs) = omega arith in
    let yes = and_both (lt-ltb i (length fs) h) (stands_of l' i (written_stands (map row_of fs) (row_of none) W i at)) in
    ap (λ (t : Bool). cond t (finding_of (row_at l' i)) None) yes
    ∙ ap finding_of (read_back (map row_of fs) (row_of none) W i at ∙ get_d_of row_of fs i (row_of none) none h)
    ∙ read_row (get_or fs i none)
