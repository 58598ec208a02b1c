-- `finding::finite_evidence` meets its contract.
use mathlib.Core.Path.{ap₂}
use mathlib.Core.Bool.{◌&&◌}
use Rattle.evidence.proofs.finding.finite_evidence.Goals as goal

pub returns : goal.returns
returns c = ap₂ ◌&&◌ (ap₂ ◌&&◌ c.finite.ensures c.finite-2.ensures) c.finite-3.ensures
