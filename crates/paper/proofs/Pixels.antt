-- Pixels row by row: where they stand in the raster, and how many there are.
use mathlib.Core.Path.{◌≡◌, refl, sym, ap, ◌∙◌}
use mathlib.Core.Bool.{Bool}
use mathlib.Core.List.{List, [], ◌∷◌, ◌++◌, map, append-nil}
use Prim.Native.Nat.{ℕ, suc, ◌+◌, ◌-◌, ◌*◌, ◌^◌, ◌<◌, ◌≤◌}
use native.Mathlib.Nat.{suc-mul, mul-one, mul_comm, zero-mul, mul-le-mul_right}
use native.Mathlib.Omega.{arith}
use lib.Dec.{eqb}
use lib.ListN.{length, get_or, take, drop, length-append, length-map}
use Rattle.std.proofs.lemmas.List.{ext_get_or, get_or-take, get_or-drop, length-take, length-drop}
use Rattle.lists.specs.Lists.{below, concat}
use Rattle.lists.proofs.Keep.{map_append, map_map, map_same, concat_append, values_more, length_values, get_d_values}
use Rattle.lists.proofs.Sizes.{keep_size_le}
use Rattle.paper.specs.Pixels.{pixel, run, pixels_in}
use Rattle.paper.specs.Steps.{many, line, RoomFor, Counted}
use Rattle.paper.proofs.Many.{many_append}

-- values of two functions that agree
pub values_same : {A : Type 0} (f g : ℕ → A) (n : ℕ) → ((k : ℕ) → f k ≡ g k) → map f (below n) ≡ map g (below n)
values_same f g n h = map_same f g (below n) (λ k m. h k)

-- a part of a row of the picture lies in the raster
pub row_inside : (w h x y n : ℕ) → x + n ≤ w → y < h → y * w + x + n ≤ w * h
row_inside w h x y n X Y =
    let a : suc y * w ≤ h * w = mul-le-mul_right w Y in
    omega (arith, suc-mul y w, mul_comm h w)

-- n numbers from a place of the raster on, as a slice
pub part_line : (raster : List ℕ) (start n : ℕ) → start + n ≤ length raster → take (start + n - start) (drop start raster) ≡ line raster start n 1
part_line raster start n h =
    let long : length (take (start + n - start) (drop start raster)) ≡ n = omega (arith, length-take (start + n - start) (drop start raster), length-drop start raster) in
    ext_get_or 0 (take (start + n - start) (drop start raster)) (line raster start n 1) (omega (arith, long, length_values (λ k. get_or raster (start + k * 1) 0) n))
    (λ i l.
    get_or-take (start + n - start) (drop start raster) i 0 (omega arith) ∙ get_or-drop start raster i 0
    ∙ sym (get_d_values (λ k. get_or raster (start + k * 1) 0) n i 0 (omega arith) ∙ ap (λ (k : ℕ). get_or raster (start + k) 0) (mul-one i)))

-- ---- rows

-- a part of a row
pub row_pixels : (raster : List ℕ) (w x y n : ℕ) → line raster (y * w + x) n 1 ≡ map (λ x. pixel raster w x y) (run x n)
row_pixels raster w x y n =
    values_same (λ k. get_or raster (y * w + x + k * 1) 0) (λ k. pixel raster w (x + k) y) n (λ k. ap (λ (i : ℕ). get_or raster i 0) (place (y * w) k))
    ∙ sym (map_map (λ x. pixel raster w x y) (λ k. x + k) (below n))
  where
    place : (r k : ℕ) → r + x + k * 1 ≡ r + (x + k)
    place r k = omega arith

pub rows_more : (raster : List ℕ) (w : ℕ) (columns : List ℕ) (y k : ℕ) → pixels_in raster w columns (run y (k + 1)) ≡ pixels_in raster w columns (run y k) ++ map (λ x. pixel raster w x (y + k)) columns
rows_more raster w columns y k =
    let row : ℕ → List ℕ = λ y. map (λ x. pixel raster w x y) columns in
    ap (λ (ys : List ℕ). pixels_in raster w columns ys) (values_more (λ k. y + k) k)
    ∙ ap concat (map_append row (run y k) ((y + k) ∷ []))
    ∙ concat_append (map row (run y k)) (row (y + k) ∷ [])
    ∙ ap (λ (t : List ℕ). pixels_in raster w columns (run y k) ++ t) (append-nil (row (y + k)))

-- rows split, and columns split
pub rows_split : (raster : List ℕ) (w : ℕ) (q : ℕ → Bool) (columns rows others : List ℕ) → many q (pixels_in raster w columns (rows ++ others)) ≡ many q (pixels_in raster w columns rows) + many q (pixels_in raster w columns others)
rows_split raster w q columns rows others =
    let row : ℕ → List ℕ = λ y. map (λ x. pixel raster w x y) columns in
    ap (many q) (ap concat (map_append row rows others) ∙ concat_append (map row rows) (map row others))
    ∙ many_append q (pixels_in raster w columns rows) (pixels_in raster w columns others)

pub columns_split : (raster : List ℕ) (w : ℕ) (q : ℕ → Bool) (columns others rows : List ℕ) → many q (pixels_in raster w (columns ++ others) rows) ≡ many q (pixels_in raster w columns rows) + many q (pixels_in raster w others rows)
columns_split raster w q columns others [] = refl
columns_split raster w q columns others (y ∷ rows) =
    let at : ℕ → ℕ = λ x. pixel raster w x y in
    let P : List ℕ → List ℕ = λ c. pixels_in raster w c rows in
    omega (arith, many_append q (map at (columns ++ others)) (P (columns ++ others)), many_append q (map at columns) (P columns), many_append q (map at others) (P others), ap (many q) (map_append at columns others), many_append q (map at columns) (map at others), columns_split raster w q columns others rows)

pub pixels_number : (raster : List ℕ) (w : ℕ) (columns rows : List ℕ) → length (pixels_in raster w columns rows) ≡ length rows * length columns
pixels_number raster w columns [] = sym (zero-mul (length columns))
pixels_number raster w columns (y ∷ rows) =
    let at : ℕ → ℕ = λ x. pixel raster w x y in
    omega (arith, length-append (map at columns) (pixels_in raster w columns rows), length-map columns at, pixels_number raster w columns rows, suc-mul (length rows) (length columns))

pub run_length : (a n : ℕ) → length (run a n) ≡ n
run_length a n = length_values (λ k. a + k) n

-- room to count one more pixel of a row
pub counted_fits : (row : List ℕ) (i p : ℕ) (counts counts' : List ℕ) → i < length row → p < 256 → RoomFor (length row) counts → Counted (take i row) counts counts' → get_or counts' p 0 + 1 < 2 ^ 32
counted_fits row i p counts counts' l b room c =
    omega (arith, room.each p b, c.grown p b, keep_size_le (eqb p) (take i row), length-take i row)
