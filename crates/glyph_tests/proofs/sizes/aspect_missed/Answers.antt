-- `sizes::aspect_missed` meets its contract.
use Rattle.std.proofs.Common.{ap₂, ◌∙◌}
use lib.Ieee.{Float, binary64, lt, mul, sub}
use Rattle.math.specs.Select.{absolute, maximum_number}
use Rattle.glyph_tests.specs.Tests.{aspect_missed}
use Rattle.glyph_tests.proofs.sizes.aspect_missed.Goals as goal

pub returns : goal.returns
unfolding aspect_missed
returns c =
    ap₂ (λ (d m : Float). lt (mul binary64 c.args.tolerance m) d) c.abs.ensures c.max.ensures
    ∙ ap₂ (λ (w h : Float). lt (mul binary64 c.args.tolerance (maximum_number w h)) (absolute (sub binary64 w h))) c.from-w.ensures c.from-h.ensures
