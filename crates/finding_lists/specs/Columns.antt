-- The lists of findings: page rectangles, four numbers each; kind and three whole facts; log odds, two evidences, a fold's length.
use Rattle.std.specs.Prelude.{◌≡◌, List, [], ◌∷◌, map, ℕ, ◌<◌, Float, get_or}
use Rattle.lists.specs.Lists.{concat, written}
use Rattle.math.specs.Constants.{zero}
use Rattle.evidence.specs.declared.finding.Row.{Row}
use Rattle.finding_lists.specs.declared.lent.LentFindings.{LentFindings}

-- The content of the lists.
pub record Columns : Type 0 where
  pub rects : List ℕ
  pub facts : List (List ℕ)
  pub scores : List (List Float)

-- What the lists hold that are lent.
abbrev pub columns_of : LentFindings → Columns
columns_of l =
    record {
      rects = l.rects.now;
      facts = l.kinds.now ∷ l.a.now ∷ l.b.now ∷ l.c.now ∷ [];
      scores = l.log_odds.now
          ∷ l.first_values.now
          ∷ l.first_thresholds.now
          ∷ l.first_llrs.now
          ∷ l.second_values.now
          ∷ l.second_thresholds.now
          ∷ l.second_llrs.now
          ∷ l.lengths.now
          ∷ [];
    }

-- What a row has in each list.
abbrev pub rect_of : Row → List ℕ
rect_of r = r.bbox.x0 ∷ r.bbox.y0 ∷ r.bbox.x1 ∷ r.bbox.y1 ∷ []

abbrev pub facts_of : Row → List ℕ
facts_of r = r.kind ∷ r.a ∷ r.b ∷ r.c ∷ []

abbrev pub scores_of : Row → List Float
scores_of r =
    r.log_odds
    ∷ r.first.value
    ∷ r.first.threshold
    ∷ r.first.llr
    ∷ r.second.value
    ∷ r.second.threshold
    ∷ r.second.llr
    ∷ r.length
    ∷ []

-- The entry of a row in list k of the facts, and in list k of the scores.
abbrev pub fact : ℕ → Row → ℕ
fact k r = get_or (facts_of r) k 0

abbrev pub score : ℕ → Row → Float
score k r = get_or (scores_of r) k zero

-- The rows stand in the lists from the front, and places past them keep their content.
pub record AllWritten (rows : List Row) (l l' : Columns) : Type 0 where
  pub rects : l'.rects ≡ written (concat (map rect_of rows)) l.rects
  pub facts : (k : ℕ) → k < 4 → get_or l'.facts k [] ≡ written (map (fact k) rows) (get_or l.facts k [])
  pub scores : (k : ℕ) → k < 8 → get_or l'.scores k [] ≡ written (map (score k) rows) (get_or l.scores k [])
