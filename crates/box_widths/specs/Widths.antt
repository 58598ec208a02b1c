-- When the widths of two boxes are similar.
use Rattle.std.specs.Prelude.{Bool, ℕ}
use Rattle.std.specs.Float.{binary64}
use Rattle.std.specs.Float.Ieee.{mul, sub, le}
use Rattle.math.specs.Constants.{three_tenths}
use Rattle.math.specs.Select.{absolute, maximum_number}
use Rattle.math.specs.Sum.{whole}

-- Two widths are similar: they differ by at most 0.3 × the larger, in f64.
unfoldable pub similar : ℕ → ℕ → Bool
similar a b =
    le (absolute (sub binary64 (whole a) (whole b))) (mul binary64 three_tenths (maximum_number (whole a) (whole b)))
