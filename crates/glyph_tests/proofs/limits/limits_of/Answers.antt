-- `limits::limits_of` meets its contract, field by field.
use Rattle.std.proofs.Common.{ap, ◌∙◌}
use lib.Ieee.{Float, binary64, mul}
use Rattle.math.specs.Select.{maximum_number}
use Rattle.glyph_tests.specs.Limits.{slack_of, box_limits_of}
use Rattle.glyph_tests.proofs.limits.limits_of.Goals as goal

pub returns : goal.returns
unfolding box_limits_of
returns c =
    let a = c.args in
    λ i. record {
      min_size = mul binary64 a.p.box_min_xh a.xheight;
      slack = slack_of a.xheight a.p;
      min_side = (c.max.ensures ∙ ap (λ (x : Float). maximum_number (mul binary64 a.p.box_min_xh a.xheight) (mul binary64 a.p.box_min_in x)) c.from.ensures) i;
      max_side = mul binary64 a.p.box_max_xh a.xheight;
      box_overshoot_fraction = a.p.box_overshoot_fraction;
      box_aspect_tol = a.p.box_aspect_tol;
      box_tolerance_px = a.p.box_tolerance_px;
      box_edge_coverage = a.p.box_edge_coverage;
      box_max_inner_ink = a.p.box_max_inner_ink;
      box_checked_ink = a.p.box_checked_ink;
    }
