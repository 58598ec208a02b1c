-- `lanegravel_detect` has the contract of `detect`.
use Rattle.lanegravel.proofs.detect_call.lanegravel_detect.Goals as goal

pub returns-clause-detected : goal.returns-clause-detected
returns-clause-detected c = c.detect.ensures
