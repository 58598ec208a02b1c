-- `kinds::grid_finding` meets its contract: both evidences and the log odds are those of the definition.
use Rattle.evidence.specs.declared.finding.Kind.TheVariants.{Grid}
use Rattle.evidence.specs.Kinds.{grid_finding}
use Rattle.evidence.proofs.Scores.{made_of_two}
use Rattle.evidence.proofs.kinds.grid_finding.Goals as goal

pub returns : goal.returns
unfolding grid_finding
returns c =
    let a = c.args in
    made_of_two (Grid a.boxes a.ticked) a.bbox a.p.grid_prior a.f.group_cap (rw (c.from.ensures, c.from-2.ensures) at c.count_evidence-first.ensures) c.evidence_of-second.ensures c.with_two.ensures
