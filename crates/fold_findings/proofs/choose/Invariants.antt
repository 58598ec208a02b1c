-- `fold_findings::choose` meets its contract. The invariant: the folds among the faint rulings so far are listed.
use Rattle.evidence.specs.Kinds.{is_fold}
use Rattle.findings.specs.Made.{fold_inches}
use Rattle.fold_findings.proofs.Chosen.{Chosen}
use Rattle.fold_findings.proofs.choose.Given as goal

abbrev pub invariant-loop-place : goal.invariant-loop-place
invariant-loop-place l = Chosen (λ i. is_fold l.p (fold_inches l.dpi l.rects l.directions i)) l.faint l.initial.out l.out l.n l.place-index
