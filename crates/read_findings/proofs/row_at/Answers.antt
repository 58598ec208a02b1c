-- `row_at` meets its contract: entry i of each list is the row's.
use Rattle.read_findings.specs.Read.{columns}
use Rattle.read_findings.proofs.Reading.{row_from_lem}
use Rattle.read_findings.proofs.row_at.Goals as goal

pub returns : goal.returns
returns c =
    let l = c.lists.inside in
    rw (← c.lists.view_is)
    (row_from_lem (columns l.rects.now l.kinds.now l.a.now l.b.now l.c.now l.log_odds.now l.first_values.now l.first_thresholds.now l.first_llrs.now l.second_values.now l.second_thresholds.now l.second_llrs.now l.lengths.now)
    c.args.i c.rect_at-r.ensures c.evidence_at-first.ensures c.evidence_at-second.ensures)
