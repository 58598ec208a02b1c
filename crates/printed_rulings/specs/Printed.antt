-- Document 01's printed and faint rulings, by their places in the list of rulings.
use Rattle.std.specs.Prelude.{Bool, not, List, ℕ, Float, length, get_or}
use Rattle.std.specs.Float.Ieee.{le}
use Rattle.std.specs.Float.{nan}
use Rattle.lists.specs.Lists.{below, keep}
use Rattle.params.specs.declared.settings.RulingsParams.{RulingsParams}

-- Printed: contrast at least rule_min_contrast.
abbrev pub printed : RulingsParams → Float → Bool
printed p contrast = le p.rule_min_contrast contrast

-- The places of the printed rulings, in their order, given the contrasts of all.
abbrev pub printed_places : RulingsParams → List Float → List ℕ
printed_places p contrasts = keep (λ k. printed p (get_or contrasts k nan)) (below (length contrasts))

-- The places of the others, which are faint.
abbrev pub faint_places : RulingsParams → List Float → List ℕ
faint_places p contrasts = keep (λ k. not (printed p (get_or contrasts k nan))) (below (length contrasts))
