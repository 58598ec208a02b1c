-- The contrast from whole numbers: level, sum and count are exact as floats, so that only the quotient and the difference are rounded.
use mathlib.Core.Path.{◌≡◌, sym, ap, ap₂, ◌∙◌, subst}
use mathlib.Core.Bool.{Bool, true, false}
use mathlib.Core.List.{map}
use Prim.Native.Nat.{ℕ, ◌*◌, ◌<◌, ◌≤◌}
use native.Mathlib.Nat.{mul_comm, le_trans, le_of_eq}
use native.Mathlib.Omega.{arith}
use lib.ListN.{length}
use lib.Ieee.{Float, binary64, sub, div}
use Rattle.math.specs.Sum.{pairwise_sum, whole, total}
use Rattle.math.specs.Near.{Within}
use Rattle.math.proofs.Sums.{total_le, sum_bytes}
use Rattle.math.proofs.Mean.{mean_within}
use Rattle.rects.specs.declared.Rect.{Rect}
use Rattle.paper.specs.Pixels.{Raster, samples, darkest}
use Rattle.paper.specs.Median.{median}
use Rattle.contrast.specs.Contrast.{contrast_of}
use Rattle.paper.specs.Steps.{OnPicture}
use Rattle.contrast.specs.Steps.{Contrasted, places_along}
use Rattle.contrast.proofs.Lines.{darkest_bytes, darkest_number}

-- a ruling has places along it, and at most as many as a side of the picture
pub places_fit : (raster : Raster) (r : Rect) (horizontal : Bool) → OnPicture raster r → (0 < places_along r horizontal) × (places_along r horizontal ≤ 8192)
places_fit raster r true on = (omega arith, omega (arith, on.narrow, on.inside.wide, on.inside.right))
places_fit raster r false on = (omega arith, omega (arith, on.low, on.inside.high, on.inside.bottom))

-- the two facts of a contrast
promised : (raster : Raster) (r : Rect) (horizontal : Bool) (x : Float) (sum count : ℕ) → x ≡ contrast_of raster.pixels raster.w raster.h r horizontal → sum ≡ total (darkest raster.pixels raster.w r horizontal) → count ≡ length (darkest raster.pixels raster.w r horizontal)
    → Within 45 x (median (samples raster.pixels raster.w raster.h r horizontal) * count) sum count → Contrasted raster r horizontal x
promised raster r horizontal x sum count value es ec near = record { value = value; near = rw (es, ec) at near }

pub contrasted : (raster : Raster) (r : Rect) (horizontal : Bool) (level sum along : ℕ) → OnPicture raster r → level ≤ 255 → level ≡ median (samples raster.pixels raster.w raster.h r horizontal)
    → sum ≡ total (darkest raster.pixels raster.w r horizontal) → along ≡ places_along r horizontal → Contrasted raster r horizontal (sub binary64 (whole level) (div binary64 (whole sum) (whole along)))
unfolding contrast_of
contrasted raster r horizontal level sum along on bright el es ea =
    let dark = darkest raster.pixels raster.w r horizontal in
    let number = darkest_number raster.pixels raster.w r horizontal in
    let fit = places_fit raster r horizontal on in
    let bytes = darkest_bytes raster.pixels raster.w r horizontal in
    let exact : pairwise_sum (map whole dark) ≡ whole (total dark) = sum_bytes dark bytes (omega arith) in
    let most : total dark ≤ 255 * length dark = le_trans (total_le 255 dark bytes) (le_of_eq (mul_comm (length dark) 255)) in
    let many : along ≡ length dark = ea ∙ sym number in
    let x = sub binary64 (whole level) (div binary64 (whole sum) (whole along)) in
    promised raster r horizontal x sum along
    (ap₂ (λ (s n : ℕ). sub binary64 (whole level) (div binary64 (whole s) (whole n))) es many ∙ ap₂ (λ (l y : Float). sub binary64 l (div binary64 y (whole (length dark)))) (ap whole el) (sym exact))
    es many
    (subst (λ (m : ℕ). Within 45 x (m * along) sum along) el (mean_within level sum along bright (omega arith) (omega arith) (omega arith)))
