-- A finding from its evidence, where the parts are known by equations.
use mathlib.Core.Path.{◌≡◌, ap₂, ◌∙◌}
use lib.Ieee.{Float}
use Rattle.layout.specs.declared.rect.PageRect.{PageRect}
use Rattle.evidence.specs.declared.finding.Evidence.{Evidence}
use Rattle.evidence.specs.declared.finding.Kind.{Kind}
use Rattle.evidence.specs.declared.finding.Finding.{Finding}
use Rattle.evidence.specs.Kinds.{with_two}

abbrev pub weighed : Float → Float → Float → Evidence
weighed v t l = record { value = v; threshold = t; llr = l }

-- two evidences; the kind holds the second
pub made_of_two : (K : Evidence → Kind) (bbox : PageRect) (prior cap : Float) {first first' second second' : Evidence} {r : Finding} → first ≡ first' → second ≡ second'
    → r ≡ with_two prior cap bbox first second.llr (K second) → r ≡ with_two prior cap bbox first' second'.llr (K second')
made_of_two K bbox prior cap e f g = g ∙ ap₂ (λ (a b : Evidence). with_two prior cap bbox a b.llr (K b)) e f
