-- `kinds::free_finding` meets its contract: both evidences and the log odds are those of the definition.
use Rattle.evidence.specs.declared.finding.Kind.TheVariants.{FreeRules}
use Rattle.evidence.specs.Kinds.{free_finding}
use Rattle.evidence.proofs.Scores.{made_of_two}
use Rattle.evidence.proofs.kinds.free_finding.Goals as goal

pub returns : goal.returns
unfolding free_finding
returns c =
    let a = c.args in
    made_of_two (FreeRules a.horizontal a.vertical a.longest) a.bbox a.p.free_rules_prior a.f.group_cap (rw c.from.ensures at c.count_evidence-first.ensures) c.evidence_of-second.ensures c.with_two.ensures
