-- What `detect` returns: its number and its counts.
use Rattle.std.specs.Prelude.{ℕ}
use Rattle.page.specs.declared.answer.Answer.{Answer}
use Rattle.page.specs.declared.counts.Counts.{Counts}

abbrev pub answer_of : ℕ → Counts → ℕ → Answer
answer_of number n findings =
    record {
      number = number;
      rulings = n.rulings;
      printed = n.printed;
      faint = n.faint;
      tables = n.tables;
      boxes = n.boxes;
      grids = n.grids;
      findings = findings;
      printed_sets = n.printed_sets;
      free = n.free;
      box_sets = n.box_sets;
    }

-- No count at all.
abbrev pub no_counts : Counts
no_counts = record { rulings = 0; printed = 0; faint = 0; tables = 0; boxes = 0; grids = 0; printed_sets = 0; free = 0; box_sets = 0 }

-- An accepted page: the number 0, and how much was found.
abbrev pub accepted : Counts → ℕ → Answer
accepted n findings = answer_of 0 n findings

-- A refused page: the number of the missed question, and every count 0.
abbrev pub refusal : ℕ → Answer
refusal number = answer_of number no_counts 0
