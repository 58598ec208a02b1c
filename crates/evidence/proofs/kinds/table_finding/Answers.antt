-- `kinds::table_finding` meets its contract: both evidences and the log odds are those of the definition.
use Rattle.math.proofs.Sums.{as_float}
use Rattle.evidence.specs.declared.finding.Kind.TheVariants.{Table}
use Rattle.evidence.specs.Kinds.{table_finding}
use Rattle.evidence.proofs.Scores.{made_of_two}
use Rattle.evidence.proofs.kinds.table_finding.Goals as goal

pub int_to_float-cells : goal.int_to_float-cells
int_to_float-cells c = rw (c.from.ensures, c.from-2.ensures) (as_float _ c.requires)

pub returns : goal.returns
unfolding table_finding
returns c =
    let a = c.args in
    rw (c.from.ensures, c.from-2.ensures) at
    (made_of_two (Table a.rows a.columns a.rulings) a.bbox a.p.table_prior a.f.group_cap c.count_evidence-first.ensures c.evidence_of-second.ensures c.with_two.ensures)
