-- The sizes and shares that the tests compare with. Float products run left to right.
use Rattle.std.specs.Prelude.{ℕ, Float}
use Rattle.std.specs.Float.{binary64}
use Rattle.std.specs.Float.Ieee.{mul}
use Rattle.math.specs.Constants.{sixteen_tenths}
use Rattle.math.specs.Select.{maximum_number}
use Rattle.math.specs.Sum.{whole}
use Rattle.params.specs.declared.settings.RulingsParams.{RulingsParams}
use Rattle.glyph_tests.specs.declared.limits.Limits.{Limits}

-- 1.6 × box_max_xh × x-height: how large a glyph box may be, since a tick may overshoot its box.
abbrev pub slack_of : Float → RulingsParams → Float
slack_of xheight p = mul binary64 (mul binary64 sixteen_tenths p.box_max_xh) xheight

-- The larger of box_min_xh × x-height and box_min_in × dpi: how small a frame may be.
abbrev pub min_side_of : ℕ → Float → RulingsParams → Float
min_side_of dpi xheight p = maximum_number (mul binary64 p.box_min_xh xheight) (mul binary64 p.box_min_in (whole dpi))

-- The limits that the settings, the dpi and the x-height give.
unfoldable pub box_limits_of : ℕ → Float → RulingsParams → Limits
box_limits_of dpi xheight p =
    record {
      min_size = mul binary64 p.box_min_xh xheight;
      slack = slack_of xheight p;
      min_side = min_side_of dpi xheight p;
      max_side = mul binary64 p.box_max_xh xheight;
      box_overshoot_fraction = p.box_overshoot_fraction;
      box_aspect_tol = p.box_aspect_tol;
      box_tolerance_px = p.box_tolerance_px;
      box_edge_coverage = p.box_edge_coverage;
      box_max_inner_ink = p.box_max_inner_ink;
      box_checked_ink = p.box_checked_ink;
    }
