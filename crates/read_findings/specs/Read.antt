-- A finding read back from the lists: what was put is what is read (proofs/Reading).
use Rattle.std.specs.Prelude.{Bool, true, false, cond, ◌&&◌, List, [], ◌∷◌, ℕ, eqb, ltb, Float, Option, Some, None, length, get_or}
use Rattle.std.specs.Float.{nan}
use Rattle.lists.specs.Lists.{every_below}
use Rattle.rects.specs.Rects.{count, rect_at}
use Rattle.evidence.specs.declared.finding.Kind.{Kind}
use Rattle.evidence.specs.declared.finding.Kind.TheVariants.{Table, FreeRules, Grid, Fold}
use Rattle.evidence.specs.declared.finding.Finding.{Finding}
use Rattle.evidence.specs.declared.finding.Row.{Row}
use Rattle.finding_lists.specs.Columns.{Columns}

-- The finding of a row, with what its kind has.
abbrev pub finding_with : Row → Kind → Finding
finding_with r k = record { log_odds = r.log_odds; bbox = r.bbox; first = r.first; kind = k }

-- A fold's direction is 0 or 1; a row with another is no finding.
abbrev pub fold_of : Row → Option Finding
fold_of r =
    cond (eqb r.a 0) (Some (finding_with r (Fold false r.length)))
    (cond (eqb r.a 1) (Some (finding_with r (Fold true r.length))) None)

-- The finding of a row, by the number of its kind; a row with another number is no finding.
unfoldable pub finding_of : Row → Option Finding
finding_of r =
    cond (eqb r.kind 16) (Some (finding_with r (Table r.a r.b r.c r.second)))
    (cond (eqb r.kind 17) (Some (finding_with r (FreeRules r.a r.b r.c r.second)))
    (cond (eqb r.kind 18) (Some (finding_with r (Grid r.a r.b r.second)))
    (cond (eqb r.kind 19) (fold_of r) None)))

-- The content of the lists, list by list.
abbrev pub columns : (rects kinds a b c : List ℕ) (odds value threshold llr value₂ threshold₂ llr₂ lengths : List Float) → Columns
columns rects kinds a b c odds value threshold llr value₂ threshold₂ llr₂ lengths =
    record {
      rects = rects;
      facts = kinds ∷ a ∷ b ∷ c ∷ [];
      scores = odds ∷ value ∷ threshold ∷ llr ∷ value₂ ∷ threshold₂ ∷ llr₂ ∷ lengths ∷ [];
    }

-- Each of n lists has an entry i.
unfoldable pub all_long : {A : Type 0} → ℕ → ℕ → List (List A) → Bool
all_long n i lists = every_below n (λ k. ltb i (length (get_or lists k [])))

-- Every list has an entry i; of rectangles, four numbers.
unfoldable pub stands : Columns → ℕ → Bool
stands l i = ltb i (count l.rects) && all_long 4 i l.facts && all_long 8 i l.scores

-- Entry i of list k.
abbrev pub fact_at : Columns → ℕ → ℕ → ℕ
fact_at l k i = get_or (get_or l.facts k []) i 0

abbrev pub score_at : Columns → ℕ → ℕ → Float
score_at l k i = get_or (get_or l.scores k []) i nan

-- The row at place i.
unfoldable pub row_at : Columns → ℕ → Row
row_at l i =
    let r = rect_at l.rects i in
    record {
      bbox = record { x0 = r.x0; y0 = r.y0; x1 = r.x1; y1 = r.y1 };
      kind = fact_at l 0 i;
      a = fact_at l 1 i;
      b = fact_at l 2 i;
      c = fact_at l 3 i;
      log_odds = score_at l 0 i;
      first = record { value = score_at l 1 i; threshold = score_at l 2 i; llr = score_at l 3 i };
      second = record { value = score_at l 4 i; threshold = score_at l 5 i; llr = score_at l 6 i };
      length = score_at l 7 i;
    }

-- The finding at place i: none at or past the count, or where a list ends before it.
abbrev pub finding_at : Columns → ℕ → ℕ → Option Finding
finding_at l count i = cond (ltb i count && stands l i) (finding_of (row_at l i)) None
