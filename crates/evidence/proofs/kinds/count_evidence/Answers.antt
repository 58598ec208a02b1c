-- `kinds::count_evidence` meets its contract.
use Rattle.evidence.proofs.kinds.count_evidence.Goals as goal

pub returns : goal.returns
returns c = rw c.min.ensures at c.evidence_of.ensures
