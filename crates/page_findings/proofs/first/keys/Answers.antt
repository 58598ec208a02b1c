-- `first::keys` meets its contract: each kind's keys begin where the last ones end.
use Rattle.findings.proofs.FirstKeys.{first_keyed}
use Rattle.page_findings.proofs.first.keys.Goals as goal

pub returns : goal.returns
returns c =
    let a = c.args in
    first_keyed a.scan.now.sides a.scan.now.shear a.scan.now.shear_x a.scan.now.settings a.bounds.now a.rects.now a.places.now a.folds.now c.requires.4 c.keys.ensures c.keys-rules.ensures c.keys-2.ensures
