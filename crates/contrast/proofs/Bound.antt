-- A contrast is finite and at most 510 in size: the paper's level and the mean are at most 255 each, and rounding doesn't pass a whole number.
use mathlib.Core.Path.{sym, subst}
use mathlib.Core.Bool.{Bool, true, false, cond}
use mathlib.Core.List.{List, [], ◌∷◌, ◌++◌, map}
use Prim.Native.Nat.{ℕ, zero, suc, ◌+◌, ◌*◌, ◌/◌, ◌<◌, ◌≤◌, zero-le, suc-le-suc}
use native.Mathlib.Nat.{mul_comm, le_refl, le_trans, le_of_eq}
use native.Mathlib.Omega.{arith}
use lib.Dec.{ltb, lit<}
use lib.Pow.{pow_pos}
use lib.ListN.{length, get_or}
use lib.Ieee.{Float, binary64, div}
use Rattle.math.specs.Sum.{pairwise_sum, whole, total}
use Rattle.math.proofs.Bound.{AtMost, value_at_most, sub_at_most}
use Rattle.math.proofs.Quotient.{quotient_at_most}
use Rattle.math.proofs.Sums.{EachLe, total_le, sum_bytes, whole_value}
use Rattle.rects.specs.declared.Rect.{Rect}
use Rattle.paper.specs.Pixels.{pixel, span, beside, pixels_in, samples, darkest}
use Rattle.paper.specs.Median.{insert, sorted, median}
use Rattle.contrast.specs.Contrast.{contrast_of}
use Rattle.paper.specs.Steps.{OnPicture}
use Rattle.contrast.proofs.Lines.{darkest_bytes, darkest_number}
use Rattle.contrast.proofs.Mean.{places_fit}

-- a raster of bytes
abbrev pub Bytes : List ℕ → Type 0
Bytes raster = (i : ℕ) → i < length raster → get_or raster i 0 ≤ 255

-- ---- the level

pub place_small : (raster : List ℕ) → Bytes raster → (i : ℕ) → get_or raster i 0 ≤ 255
place_small [] bytes i = zero-le
place_small (x ∷ xs) bytes zero = bytes 0 (omega arith)
place_small (x ∷ xs) bytes (suc i) = place_small xs (λ j l. bytes (suc j) (suc-le-suc l)) i

each_append : (xs ys : List ℕ) → EachLe 255 xs → EachLe 255 ys → EachLe 255 (xs ++ ys)
each_append [] ys h k = k
each_append (x ∷ xs) ys h k = (h.0, each_append xs ys h.1 k)

module _ (raster : List ℕ) (w : ℕ) (bytes : Bytes raster) where
  row_small : (y : ℕ) (columns : List ℕ) → EachLe 255 (map (λ x. pixel raster w x y) columns)
  row_small y [] = tt
  row_small y (x ∷ columns) = (place_small raster bytes (y * w + x), row_small y columns)

  pixels_small : (columns rows : List ℕ) → EachLe 255 (pixels_in raster w columns rows)
  pixels_small columns [] = tt
  pixels_small columns (y ∷ rows) = each_append (map (λ x. pixel raster w x y) columns) (pixels_in raster w columns rows) (row_small y columns) (pixels_small columns rows)

  samples_small : (h : ℕ) (r : Rect) (horizontal : Bool) → EachLe 255 (samples raster w h r horizontal)
  unfolding samples
  samples_small h r true = pixels_small (span r.x0 r.x1) (beside h r.y0 r.y1)
  samples_small h r false = pixels_small (beside w r.x0 r.x1) (span r.y0 r.y1)

insert_small : (v : ℕ) (xs : List ℕ) → v ≤ 255 → EachLe 255 xs → EachLe 255 (insert v xs)
unfolding insert
insert_small v [] l h = (l, tt)
insert_small v (x ∷ xs) l h = go (insert_small v xs l h.1) (ltb v x)
  where
    go : EachLe 255 (insert v xs) → (b : Bool) → EachLe 255 (cond b (v ∷ x ∷ xs) (x ∷ insert v xs))
    go ih true = (l, h)
    go ih false = (h.0, ih)

sorted_small : (xs : List ℕ) → EachLe 255 xs → EachLe 255 (sorted xs)
unfolding sorted
sorted_small [] h = tt
sorted_small (x ∷ xs) h = insert_small x (sorted xs) h.0 (sorted_small xs h.1)

entry_small : (xs : List ℕ) (k : ℕ) → EachLe 255 xs → get_or xs k 255 ≤ 255
entry_small [] k h = le_refl 255
entry_small (x ∷ xs) zero h = h.0
entry_small (x ∷ xs) (suc k) h = entry_small xs k h.1

pub median_small : (xs : List ℕ) → EachLe 255 xs → median xs ≤ 255
median_small xs h = entry_small (sorted xs) (length xs / 2) (sorted_small xs h)

-- ---- the mean

pub mean_small : (dark : List ℕ) → EachLe 255 dark → 0 < length dark → length dark ≤ 8192 → AtMost 255 (div binary64 (pairwise_sum (map whole dark)) (whole (length dark)))
mean_small dark bytes some few =
    let most : total dark ≤ 255 * length dark = le_trans (total_le 255 dark bytes) (le_of_eq (mul_comm (length dark) 255)) in
    subst (λ (x : Float). AtMost 255 (div binary64 x (whole (length dark)))) (sym (sum_bytes dark bytes few))
    (quotient_at_most 255 (total dark) (length dark) some most (omega arith) (omega arith) (lit< tt))

-- ---- their difference

pub contrast_small : (raster : List ℕ) (w h : ℕ) (r : Rect) (horizontal : Bool) → Bytes raster → OnPicture (record { pixels = raster; w = w; h = h }) r → AtMost 510 (contrast_of raster w h r horizontal)
unfolding contrast_of
contrast_small raster w h r horizontal bytes on =
    let dark = darkest raster w r horizontal in
    let level = median (samples raster w h r horizontal) in
    let bright : level ≤ 255 = median_small (samples raster w h r horizontal) (samples_small raster w bytes h r horizontal) in
    let number = darkest_number raster w r horizontal in
    let fit = places_fit (record { pixels = raster; w = w; h = h }) r horizontal on in
    sub_at_most binary64 255 255 (whole level) (div binary64 (pairwise_sum (map whole dark)) (whole (length dark)))
    (value_at_most 255 (whole level) false level 1 (pow_pos 0) (omega arith) (whole_value level (omega arith)))
    (mean_small dark (darkest_bytes raster w r horizontal) (omega arith) (omega arith)) (lit< tt)
