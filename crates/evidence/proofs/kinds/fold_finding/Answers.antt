-- `kinds::fold_finding` meets its contract: its evidence, its length and its log odds are those of the definition.
use mathlib.Core.Path.{ap, ap₂, ◌∙◌}
use mathlib.Core.List.{[], ◌∷◌}
use lib.Ieee.{Float}
use Rattle.math.specs.Constants.{zero}
use Rattle.evidence.specs.declared.finding.Evidence.{Evidence}
use Rattle.evidence.specs.declared.finding.Kind.TheVariants.{Fold}
use Rattle.evidence.specs.Score.{log_odds}
use Rattle.evidence.specs.Kinds.{fold_finding}
use Rattle.evidence.proofs.kinds.fold_finding.Goals as goal

pub returns : goal.returns
unfolding fold_finding
returns c =
    let a = c.args in
    ap (λ (l : Float). record { log_odds = l; bbox = a.bbox; first = c.evidence_of-first.result; kind = Fold a.vertical c.round_output-length.result }) c.log_odds.ensures
    ∙ ap₂ (λ (e : Evidence) (x : Float). record { log_odds = log_odds zero a.f.group_cap (e.llr ∷ []); bbox = a.bbox; first = e; kind = Fold a.vertical x })
    c.evidence_of-first.ensures c.round_output-length.ensures
