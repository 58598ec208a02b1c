-- `places::over` meets its contract.
use native.Mathlib.Omega.{arith}
use Rattle.math.proofs.Sums.{as_float}
use Rattle.findings.proofs.places.over.Goals as goal

pub int_to_float-result : goal.int_to_float-result
int_to_float-result c = as_float c.args.n (omega (arith, c.requires))
