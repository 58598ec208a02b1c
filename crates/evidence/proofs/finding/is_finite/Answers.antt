-- `finding::is_finite` meets its contract: what stands in the places that a fold doesn't use is finite.
use mathlib.Core.Path.{◌≡◌, refl, ap, ap₂, ◌∙◌}
use mathlib.Core.Bool.{Bool, true, false, ◌&&◌}
use lib.Ieee.{of_bits}
use Rattle.evidence.specs.declared.finding.Finding.{Finding}
use Rattle.evidence.specs.declared.finding.Kind.{Kind}
use Rattle.evidence.specs.declared.finding.Kind.TheVariants.{Table, FreeRules, Grid, Fold}
use Rattle.evidence.specs.declared.finding.Row.{Row}
use Rattle.evidence.specs.Finding.{second_evidence, evidences_with, finite_evidence, all_finite, finite_finding}
use Rattle.evidence.proofs.finding.is_finite.Goals as goal

and_last : (a b : Bool) → a && b ≡ a && (b && true)
and_last a true = refl
and_last a false = refl

both_finite : (f : Finding) (k : Kind) → finite_evidence f.first && finite_evidence (second_evidence k) ≡ all_finite (evidences_with f k)
unfolding of_bits
both_finite f (Table rows columns rulings second) = and_last (finite_evidence f.first) (finite_evidence second)
both_finite f (FreeRules horizontal vertical longest second) = and_last (finite_evidence f.first) (finite_evidence second)
both_finite f (Grid boxes ticked second) = and_last (finite_evidence f.first) (finite_evidence second)
both_finite f (Fold vertical length) = refl

pub returns : goal.returns
unfolding finite_finding
returns c =
    let f = c.args.f in
    let row = c.from-row.ensures in
    ap₂ ◌&&◌ (c.finite_evidence.ensures ∙ ap (λ (r : Row). finite_evidence r.first) row) (c.finite_evidence-2.ensures ∙ ap (λ (r : Row). finite_evidence r.second) row)
    ∙ both_finite f f.kind
