-- `fold_findings::choose` meets its contract: a faint ruling is listed or passed over.
use mathlib.Core.Path.{ap, ◌∙◌}
use Rattle.evidence.specs.Kinds.{is_fold}
use Rattle.findings.specs.Made.{fold_inches}
use Rattle.fold_findings.proofs.Chosen.{chosen_none, chosen_one, chosen_past, chosen_all, chosen_moved}
use Rattle.fold_findings.proofs.choose.Goals.{then-is_fold, else-is_fold}
use Rattle.fold_findings.proofs.choose.Goals as goal

pub loop-place-init : goal.loop-place-init
loop-place-init c = chosen_none (λ k. is_fold c.args.p (fold_inches c.args.dpi c.args.rects.now c.args.directions.now k)) c.args.faint.now c.args.out.now

pub loop-place-preserved : goal.loop-place-preserved
loop-place-preserved c =
    let C = c.loop-place.invariant in
    let l = c.loop-place-test.true in
    let e = c.is_fold.ensures ∙ ap (is_fold c.args.p) c.inches.ensures in
    elim c.if-is_fold.branch [
      | then-is_fold w ↦ chosen_moved (chosen_one C l c.requires.1 e w.if-is_fold.true) w.out-is w.n-is
      | else-is_fold w ↦ chosen_moved (chosen_past C l e w.if-is_fold.false) w.out-is w.n-is
    ]

pub returns : goal.returns
returns c = chosen_all c.loop-place.invariant c.loop-place-test.false
