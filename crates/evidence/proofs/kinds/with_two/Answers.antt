-- `kinds::with_two` meets its contract.
use mathlib.Core.Path.{ap}
use lib.Ieee.{Float}
use Rattle.evidence.proofs.kinds.with_two.Goals as goal

pub returns : goal.returns
returns c =
    let a = c.args in
    ap (λ (l : Float). record { log_odds = l; bbox = a.bbox; first = a.first; kind = a.kind }) c.log_odds.ensures
