-- Document 01's findings: four kinds, each with its own facts. For each kind its number in document 01 and its values.
use Rattle.std.specs.Prelude.{ℕ, Bool, true, cond, eqb, ◌&&◌, List, [], ◌∷◌, Result, Ok, Err, Float}
use Rattle.std.specs.Float.Ieee.Scale.{finite}
use Rattle.math.specs.Constants.{zero}
use Rattle.evidence.specs.declared.finding.Evidence.{Evidence}
use Rattle.evidence.specs.declared.finding.Kind.{Kind}
use Rattle.evidence.specs.declared.finding.Kind.TheVariants.{Table, FreeRules, Grid, Fold}
use Rattle.evidence.specs.declared.finding.KindName.{KindName}
use Rattle.evidence.specs.declared.finding.KindName.TheVariants as Name
use Rattle.evidence.specs.declared.finding.NoKind.{NoKind}
use Rattle.evidence.specs.declared.finding.Finding.{Finding}
use Rattle.evidence.specs.declared.finding.Row.{Row}

-- Table 16, free rules 17, grid 18, fold 19.
abbrev pub kind_number : Kind → ℕ
kind_number (Table rows columns rulings second) = 16
kind_number (FreeRules horizontal vertical longest second) = 17
kind_number (Grid boxes ticked second) = 18
kind_number (Fold vertical length) = 19

-- The same numbers, of the kinds without their facts.
abbrev pub number_of : KindName → ℕ
number_of Name.Table = 16
number_of Name.FreeRules = 17
number_of Name.Grid = 18
number_of Name.Fold = 19

-- The kind that has a number, and an error where none has it.
abbrev pub named : ℕ → Result KindName NoKind
named number =
    cond (eqb number 16) (Ok Name.Table)
    (cond (eqb number 17) (Ok Name.FreeRules)
    (cond (eqb number 18) (Ok Name.Grid)
    (cond (eqb number 19) (Ok Name.Fold) (Err (record {})))))

-- A fold's direction: 0 for horizontal and 1 for vertical.
abbrev pub fold_number : Bool → ℕ
fold_number vertical = cond vertical 1 0

-- The whole facts of a kind, three places; those that it doesn't use hold 0.
abbrev pub first_fact : Kind → ℕ
first_fact (Table rows columns rulings second) = rows
first_fact (FreeRules horizontal vertical longest second) = horizontal
first_fact (Grid boxes ticked second) = boxes
first_fact (Fold vertical length) = fold_number vertical

abbrev pub second_fact : Kind → ℕ
second_fact (Table rows columns rulings second) = columns
second_fact (FreeRules horizontal vertical longest second) = vertical
second_fact (Grid boxes ticked second) = ticked
second_fact (Fold vertical length) = 0

abbrev pub third_fact : Kind → ℕ
third_fact (Table rows columns rulings second) = rulings
third_fact (FreeRules horizontal vertical longest second) = longest
third_fact (Grid boxes ticked second) = 0
third_fact (Fold vertical length) = 0

-- What stands in the places of a second evidence that a fold doesn't have.
abbrev pub no_evidence : Evidence
no_evidence = record { value = zero; threshold = zero; llr = zero }

abbrev pub second_evidence : Kind → Evidence
second_evidence (Table rows columns rulings second) = second
second_evidence (FreeRules horizontal vertical longest second) = second
second_evidence (Grid boxes ticked second) = second
second_evidence (Fold vertical length) = no_evidence

-- A fold's length; other kinds hold 0.0.
abbrev pub fold_length : Kind → Float
fold_length (Table rows columns rulings second) = zero
fold_length (FreeRules horizontal vertical longest second) = zero
fold_length (Grid boxes ticked second) = zero
fold_length (Fold vertical length) = length

-- A finding as a row of numbers.
abbrev pub row_with : Finding → Kind → Row
row_with f k =
    record {
      bbox = f.bbox;
      kind = kind_number k;
      a = first_fact k;
      b = second_fact k;
      c = third_fact k;
      log_odds = f.log_odds;
      first = f.first;
      second = second_evidence k;
      length = fold_length k;
    }

abbrev pub row_of : Finding → Row
row_of f = row_with f f.kind

-- The evidences of a finding: two, and one for a fold.
abbrev pub evidences_with : Finding → Kind → List Evidence
evidences_with f (Table rows columns rulings second) = f.first ∷ second ∷ []
evidences_with f (FreeRules horizontal vertical longest second) = f.first ∷ second ∷ []
evidences_with f (Grid boxes ticked second) = f.first ∷ second ∷ []
evidences_with f (Fold vertical length) = f.first ∷ []

-- Value, threshold and llr are finite.
abbrev pub finite_evidence : Evidence → Bool
finite_evidence e = finite e.value && finite e.threshold && finite e.llr

-- Every evidence of a list is finite.
abbrev pub all_finite : List Evidence → Bool
all_finite [] = true
all_finite (e ∷ es) = finite_evidence e && all_finite es

-- Question 15 of one finding: every evidence number is finite.
unfoldable pub finite_finding : Finding → Bool
finite_finding f = all_finite (evidences_with f f.kind)
