-- The darkest pixels across a ruling: by rows, and by columns that are darkened row by row.
use mathlib.Core.Path.{◌≡◌, sym, ap, ap₂, ◌∙◌}
use mathlib.Core.Bool.{Bool, true, false}
use mathlib.Core.List.{List, [], ◌∷◌, ◌++◌, map, append_assoc, append-nil}
use Prim.Native.Nat.{ℕ, zero, suc, ◌+◌, ◌-◌, ◌*◌, ◌<◌, ◌≤◌, min}
use native.Mathlib.Nat.{add-mul, mul_comm, add-zero, add-suc, add_assoc, min_comm, min-le_right, le_trans, le_refl, eq-or-lt_of_le, le_of_suc-le-suc}
use mathlib.Core.Logic.{inl, inr}
use native.Mathlib.Numerals.{add-one}
use native.Mathlib.Omega.{arith}
use lib.ListN.{length, get_or, take, length-map}
use Rattle.std.proofs.lemmas.List.{ext_get_or, get_or-take, length-take}
use Rattle.lists.specs.Lists.{below}
use Rattle.lists.proofs.Keep.{values_more, length_values, get_d_values, map_map, map_append}
use Rattle.math.specs.Sum.{total}
use Rattle.math.proofs.Sums.{EachLe, total_le}
use Rattle.rects.specs.declared.Rect.{Rect}
use Rattle.rects.specs.Rects.{width_of, height_of}
use Rattle.paper.specs.Pixels.{pixel, run, span, darkest_of, darkest}
use Rattle.paper.specs.Steps.{line}
use Rattle.contrast.specs.Steps.{columns_darkest, rows_darkest, Darkened, RowsInside, places_along}
use Rattle.paper.proofs.Pixels.{values_same, row_inside, run_length}

-- ---- the darkest of some pixels

pub darkest_more : (xs : List ℕ) (p : ℕ) → darkest_of (xs ++ (p ∷ [])) ≡ min (darkest_of xs) p
unfolding darkest_of
darkest_more [] p = min_comm p 255
darkest_more (x ∷ xs) p = rw (darkest_more xs p) (grouped x (darkest_of xs) p)
  where
    grouped : (a b c : ℕ) → min a (min b c) ≡ min (min a b) c
    grouped a b c = omega arith

pub darkest_le : (xs : List ℕ) → darkest_of xs ≤ 255
unfolding darkest_of
darkest_le [] = le_refl 255
darkest_le (x ∷ xs) = le_trans (min-le_right x (darkest_of xs)) (darkest_le xs)

each_le : (f : ℕ → List ℕ) (is : List ℕ) → EachLe 255 (map (λ i. darkest_of (f i)) is)
each_le f [] = tt
each_le f (i ∷ is) = (darkest_le (f i), each_le f is)

pub total_more : (xs : List ℕ) (p : ℕ) → total (xs ++ (p ∷ [])) ≡ total xs + p
unfolding total
total_more [] p = omega arith
total_more (x ∷ xs) p = omega (arith, total_more xs p)

-- ---- by rows

pub sum_more : (raster : List ℕ) (start i columns w : ℕ) → total (rows_darkest raster start (i + 1) columns w) ≡ total (rows_darkest raster start i columns w) + darkest_of (line raster (start + i * w) columns 1)
sum_more raster start i columns w =
    let f : ℕ → ℕ = λ i. darkest_of (line raster (start + i * w) columns 1) in
    ap total (values_more f i) ∙ total_more (map f (below i)) (f i)

-- ---- by columns

-- one more row
pub darkened_more : (raster : List ℕ) (start n k w : ℕ) (least least' : List ℕ) → Darkened raster start n k w least
    → ((i : ℕ) → i < n → get_or least' i 0 ≡ min (get_or least i 0) (get_or (line raster (start + k * w) n 1) i 0)) → Darkened raster start n (k + 1) w least'
darkened_more raster start n k w least least' d h i l =
    h i l ∙ ap₂ (λ (a b : ℕ). min a b) (d i l) (get_d_values (λ j. get_or raster (start + k * w + j * 1) 0) n i 0 l ∙ ap (λ (j : ℕ). get_or raster j 0) (place (k * w)))
    ∙ sym (ap darkest_of (values_more (λ k. get_or raster (start + i + k * w) 0) k) ∙ darkest_more (line raster (start + i) k w) (get_or raster (start + i + k * w) 0))
  where
    place : (r : ℕ) → start + r + i * 1 ≡ start + i + r
    place r = omega arith

-- the first i entries of a row are done, and the rest are as they were
pub record DarkenedTo (row : List ℕ) (i : ℕ) (least least' : List ℕ) : Type 0 where
  pub done : (j : ℕ) → j < i → get_or least' j 0 ≡ min (get_or least j 0) (get_or row j 0)
  pub left : (j : ℕ) → i ≤ j → get_or least' j 0 ≡ get_or least j 0

earlier : (j i : ℕ) → j < i + 1 → (j ≡ i → ⊥) → j < i
earlier j i l q = elim (eq-or-lt_of_le (le_of_suc-le-suc (rw add-one at l))) [ inl e ↦ absurd (q e) | inr h ↦ h ]

-- the sum of the first n entries is that of the columns
pub columns_sum : (raster : List ℕ) (start n rows w : ℕ) (least : List ℕ) → n ≤ length least → Darkened raster start n rows w least → total (take n least) ≡ total (columns_darkest raster start n rows w)
columns_sum raster start n rows w least room d =
    let f : ℕ → ℕ = λ i. darkest_of (line raster (start + i) rows w) in
    ap total
    (ext_get_or 0 (take n least) (map f (below n)) (omega (arith, length-take n least, length_values f n))
    (λ i l.
    let h : i < n = omega (arith, length-take n least) in
    get_or-take n least i 0 h ∙ d i h ∙ sym (get_d_values f n i 0 h)))

-- columns split
values_split : (f : ℕ → ℕ) (i k : ℕ) → map f (below (i + k)) ≡ map f (below i) ++ map (λ j. f (i + j)) (below k)
values_split f i zero = rw (add-zero i) (sym (append-nil (map f (below i))))
values_split f i (suc k) =
    ap (λ (n : ℕ). map f (below n)) (add-suc i k)
    ∙ map_append f (below (i + k)) ((i + k) ∷ [])
    ∙ ap (λ (s : List ℕ). s ++ (f (i + k) ∷ [])) (values_split f i k)
    ∙ append_assoc (map f (below i)) (map (λ j. f (i + j)) (below k)) (f (i + k) ∷ [])
    ∙ ap (λ (s : List ℕ). map f (below i) ++ s) (sym (map_append (λ j. f (i + j)) (below k) (k ∷ [])))

total_append : (xs ys : List ℕ) → total (xs ++ ys) ≡ total xs + total ys
unfolding total
total_append [] ys = omega arith
total_append (x ∷ xs) ys = omega (arith, total_append xs ys)

pub sum_split : (raster : List ℕ) (start i k rows w : ℕ) → total (columns_darkest raster start (i + k) rows w) ≡ total (columns_darkest raster start i rows w) + total (columns_darkest raster (start + i) k rows w)
sum_split raster start i k rows w =
    let f : ℕ → ℕ = λ j. darkest_of (line raster (start + j) rows w) in
    ap total (values_split f i k) ∙ total_append (map f (below i)) (map (λ j. f (i + j)) (below k))
    ∙ ap (λ (s : List ℕ). total (map f (below i)) + total s) (values_same (λ j. f (i + j)) (λ j. darkest_of (line raster (start + i + j) rows w)) k (λ j. ap (λ (a : ℕ). darkest_of (line raster a rows w)) (sym (add_assoc start i j))))

pub columns_le : (raster : List ℕ) (start n rows w : ℕ) → total (columns_darkest raster start n rows w) ≤ 255 * n
columns_le raster start n rows w =
    let xs = columns_darkest raster start n rows w in
    omega (arith, total_le 255 xs (each_le (λ i. line raster (start + i) rows w) (below n)), length_values (λ i. darkest_of (line raster (start + i) rows w)) n, mul_comm (length xs) 255)

-- ---- the darkest of a ruling

-- the rows of a ruling lie in the raster
pub rows_inside : (raster : List ℕ) (w h x y n m : ℕ) → length raster ≡ w * h → x + n ≤ w → y + m ≤ h → RowsInside raster (y * w + x) n m w
rows_inside raster w h x y n m full X Y k l = omega (arith, row_inside w h x (y + k) n X (omega arith), add-mul y k w)

column_place : (w x y i k : ℕ) → y * w + x + i + k * w ≡ (y + k) * w + (x + i)
column_place w x y i k = omega (arith, add-mul y k w)

row_place : (w x y i k : ℕ) → y * w + x + i * w + k * 1 ≡ (y + i) * w + (x + k)
row_place w x y i k = omega (arith, add-mul y i w)

-- for each column the pixels of some rows, and for each row the pixels of some columns
columns_darkest_lem : (raster : List ℕ) (w x y n m : ℕ) → map (λ x. darkest_of (map (λ y. pixel raster w x y) (run y m))) (run x n) ≡ columns_darkest raster (y * w + x) n m w
columns_darkest_lem raster w x y n m =
    map_map (λ x. darkest_of (map (λ y. pixel raster w x y) (run y m))) (λ i. x + i) (below n)
    ∙ values_same (λ i. darkest_of (map (λ y. pixel raster w (x + i) y) (run y m))) (λ i. darkest_of (line raster (y * w + x + i) m w)) n
    (λ i. ap darkest_of (map_map (λ y. pixel raster w (x + i) y) (λ k. y + k) (below m)
    ∙ values_same (λ k. pixel raster w (x + i) (y + k)) (λ k. get_or raster (y * w + x + i + k * w) 0) m (λ k. ap (λ (j : ℕ). get_or raster j 0) (sym (column_place w x y i k)))))

rows_darkest_lem : (raster : List ℕ) (w x y n m : ℕ) → map (λ y. darkest_of (map (λ x. pixel raster w x y) (run x m))) (run y n) ≡ rows_darkest raster (y * w + x) n m w
rows_darkest_lem raster w x y n m =
    map_map (λ y. darkest_of (map (λ x. pixel raster w x y) (run x m))) (λ i. y + i) (below n)
    ∙ values_same (λ i. darkest_of (map (λ x. pixel raster w x (y + i)) (run x m))) (λ i. darkest_of (line raster (y * w + x + i * w) m 1)) n
    (λ i. ap darkest_of (map_map (λ x. pixel raster w x (y + i)) (λ k. x + k) (below m)
    ∙ values_same (λ k. pixel raster w (x + k) (y + i)) (λ k. get_or raster (y * w + x + i * w + k * 1) 0) m (λ k. ap (λ (j : ℕ). get_or raster j 0) (sym (row_place w x y i k)))))

-- the sum of a ruling's darkest pixels, by columns and by rows
pub horizontal_sum : (raster : List ℕ) (w : ℕ) (r : Rect) (horizontal : Bool) (n m : ℕ) → n ≡ width_of r → m ≡ height_of r → horizontal ≡ true → total (columns_darkest raster (r.y0 * w + r.x0) n m w) ≡ total (darkest raster w r horizontal)
unfolding darkest
horizontal_sum raster w r horizontal n m en em t = rw (t, en, em) (ap total (sym (columns_darkest_lem raster w r.x0 r.y0 (width_of r) (height_of r))))

pub vertical_sum : (raster : List ℕ) (w : ℕ) (r : Rect) (horizontal : Bool) (n m : ℕ) → n ≡ width_of r → m ≡ height_of r → horizontal ≡ false → total (rows_darkest raster (r.y0 * w + r.x0) m n w) ≡ total (darkest raster w r horizontal)
unfolding darkest
vertical_sum raster w r horizontal n m en em t = rw (t, en, em) (ap total (sym (rows_darkest_lem raster w r.x0 r.y0 (height_of r) (width_of r))))

-- what there is of a ruling: a number from 0 to 255 for each place along it
pub darkest_bytes : (raster : List ℕ) (w : ℕ) (r : Rect) (horizontal : Bool) → EachLe 255 (darkest raster w r horizontal)
unfolding darkest
darkest_bytes raster w r true = each_le (λ x. map (λ y. pixel raster w x y) (span r.y0 r.y1)) (span r.x0 r.x1)
darkest_bytes raster w r false = each_le (λ y. map (λ x. pixel raster w x y) (span r.x0 r.x1)) (span r.y0 r.y1)

pub darkest_number : (raster : List ℕ) (w : ℕ) (r : Rect) (horizontal : Bool) → length (darkest raster w r horizontal) ≡ places_along r horizontal
unfolding darkest
darkest_number raster w r true = length-map (span r.x0 r.x1) (λ x. darkest_of (map (λ y. pixel raster w x y) (span r.y0 r.y1))) ∙ run_length r.x0 (r.x1 - r.x0 + 1)
darkest_number raster w r false = length-map (span r.y0 r.y1) (λ y. darkest_of (map (λ x. pixel raster w x y) (span r.x0 r.x1))) ∙ run_length r.y0 (r.y1 - r.y0 + 1)
