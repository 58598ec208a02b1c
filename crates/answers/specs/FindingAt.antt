-- A finding as C gets it: found 1 and its numbers, or all 0 where there is none.
use Rattle.std.specs.Prelude.{ℕ, Option, Some, None}
use Rattle.math.specs.Constants.{zero}
use Rattle.layout.specs.declared.rect.PageRect.{PageRect}
use Rattle.evidence.specs.declared.finding.Finding.{Finding}
use Rattle.evidence.specs.declared.finding.Row.{Row}
use Rattle.evidence.specs.Finding.{no_evidence, row_of}
use Rattle.answers.specs.declared.finding_at.FindingAtAnswer.{FindingAtAnswer}

-- 1 where there is a finding, and the numbers of a row.
abbrev pub of_row : ℕ → Row → FindingAtAnswer
of_row found r =
    record {
      found = found;
      kind = r.kind;
      x0 = r.bbox.x0;
      y0 = r.bbox.y0;
      x1 = r.bbox.x1;
      y1 = r.bbox.y1;
      a = r.a;
      b = r.b;
      c = r.c;
      log_odds = r.log_odds;
      first_value = r.first.value;
      first_threshold = r.first.threshold;
      first_llr = r.first.llr;
      second_value = r.second.value;
      second_threshold = r.second.threshold;
      second_llr = r.second.llr;
      length = r.length;
    }

-- All 0.
abbrev pub zeros : Row
zeros =
    let none : PageRect = record { x0 = 0; y0 = 0; x1 = 0; y1 = 0 } in
    record { bbox = none; kind = 0; a = 0; b = 0; c = 0; log_odds = zero; first = no_evidence; second = no_evidence; length = zero }

-- The values of each case, those of a finding by its row: kind number, rectangle, facts, log odds, evidences, a fold's length.
abbrev pub answer_of : Option Finding → FindingAtAnswer
answer_of (Some f) = of_row 1 (row_of f)
answer_of None = of_row 0 zeros
