-- The contrast of a ruling: the paper's level less the mean of the darkest pixels across the ruling.
use Rattle.std.specs.Prelude.{ℕ, ◌*◌, Bool, List, map, length, Float}
use Rattle.std.specs.Float.{binary64}
use Rattle.std.specs.Float.Ieee.{sub, div}
use Rattle.math.specs.Sum.{pairwise_sum, whole, total}
use Rattle.math.specs.Near.{Within}
use Rattle.rects.specs.declared.Rect.{Rect}
use Rattle.paper.specs.Pixels.{darkest, samples}
use Rattle.paper.specs.Median.{median}

-- The samples' median minus sum over count, in f64: one rounding in the division and one in the subtraction.
abbrev pub median_less_mean : List ℕ → List ℕ → Float
median_less_mean paper dark = sub binary64 (whole (median paper)) (div binary64 (pairwise_sum (map whole dark)) (whole (length dark)))

-- The contrast of a ruling.
unfoldable pub contrast_of : List ℕ → ℕ → ℕ → Rect → Bool → Float
contrast_of raster w h r horizontal = median_less_mean (samples raster w h r horizontal) (darkest raster w r horizontal)

-- x is within 2^-45 of the exact fraction, median minus sum over count, said over whole numbers: (median × count − sum) / count.
abbrev pub NearContrast : List ℕ → ℕ → ℕ → Rect → Bool → Float → Type 0
NearContrast raster w h r horizontal x =
    let dark = darkest raster w r horizontal in
    Within 45 x (median (samples raster w h r horizontal) * length dark) (total dark) (length dark)
