-- The limits of `tables`: J, the line limit and the set minima.
use Rattle.std.specs.Prelude.{Float}
use Rattle.params.specs.Limits.{join_limit, line_limit}
use Rattle.params.specs.declared.settings.RulingsParams.{RulingsParams}
use Rattle.shapes.specs.declared.limits.Limits.{Limits}

-- J is round(join_tol_xh × x-height) and the line limit round(line_cluster_xh × x-height), which are not below 0 once the questions are passed.
abbrev pub table_limits_of : RulingsParams → Float → Limits
table_limits_of p xheight =
    record {
      join = join_limit p xheight;
      cluster = line_limit p xheight;
      min_horizontal = p.table_min_horizontal;
      min_vertical = p.table_min_vertical;
    }
