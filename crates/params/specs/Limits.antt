-- Document 01's limits, in pixels: round(setting × x-height).
use Rattle.std.specs.Prelude.{◌≡◌, ℕ, pos, nat_abs, Float}
use Rattle.std.specs.Float.{binary64}
use Rattle.std.specs.Float.Ieee.{mul}
use Rattle.math.specs.Constants.{two}
use Rattle.math.specs.Rounding.{rounded_product}
use Rattle.params.specs.declared.settings.RulingsParams.{RulingsParams}

-- round(setting × x-height) as a whole number.
abbrev pub limit_of : Float → Float → ℕ
limit_of setting xheight = nat_abs (rounded_product setting xheight)

-- The limit is the rounded product itself, which is not below 0: so it is where setting and x-height passed their questions.
abbrev pub IsLimit : Float → Float → Type 0
IsLimit setting xheight = rounded_product setting xheight ≡ pos (limit_of setting xheight)

-- How far the centres of two pieces of one ruling may lie apart.
abbrev pub across_limit : RulingsParams → Float → ℕ
across_limit p = limit_of p.merge_across_xh

-- How large the gap between two pieces of one ruling may be.
abbrev pub gap_limit : RulingsParams → Float → ℕ
gap_limit p = limit_of p.merge_gap_xh

-- J: how far rulings may miss each other and still touch.
abbrev pub join_limit : RulingsParams → Float → ℕ
join_limit p = limit_of p.join_tol_xh

-- How far a position may exceed the previous one and still be on its line.
abbrev pub line_limit : RulingsParams → Float → ℕ
line_limit p = limit_of p.line_cluster_xh

-- How far the doubled centres of two boxes of one row or column may lie apart: round(2 × grid_align_xh × x-height), products left to right.
abbrev pub align_setting : RulingsParams → Float
align_setting p = mul binary64 two p.grid_align_xh

abbrev pub align_limit : RulingsParams → Float → ℕ
align_limit p = limit_of (align_setting p)
