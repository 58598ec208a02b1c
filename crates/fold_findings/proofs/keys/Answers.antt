-- `fold_findings::keys` meets its contract: key k is that of fold k.
use mathlib.Core.Path.{ap, ◌∙◌}
use lib.ListN.{get_or}
use lib.Seq.{sets}
use Rattle.std.proofs.Common.{rules}
use Rattle.findings.specs.Steps.{fold_key}
use Rattle.lists.proofs.Keep.{at_entries}
use Rattle.fold_findings.proofs.keys.Goals as goal

pub returns : goal.returns
returns c =
    let key = fold_key c.args.scan.now.sides c.args.scan.now.shear c.args.scan.now.shear_x c.args.rects.now in
    c.put_all.ensures.all (λ k. key (get_or c.args.folds.now k 0)) (λ k x h p. search rules)
    ∙ ap (sets c.args.keys.now c.args.at) (at_entries key c.args.folds.now)
