-- Places of a raster: rows lie one after the other, and a raster is known by what each place holds.
use mathlib.Core.Path.{◌≡◌, refl, sym, ap, ◌∙◌}
use mathlib.Core.Logic.{◌⊎◌, inl, inr, ⊎_elim}
use mathlib.Core.List.{List, [], ◌∷◌, ◌++◌}
use Prim.Native.Nat.{ℕ, zero, suc, ◌+◌, ◌*◌, ◌/◌, ◌%◌, ◌≤◌, ◌<◌}
use native.Mathlib.Nat.{eq-or-lt_of_le, le_of_suc-le-suc, mul-le-mul, mul-le-mul_right, mul_comm, suc-mul, mul-suc, zero-mul, mul-zero, div-add-mod', mod-lt, div-lt_iff_lt-mul}
use native.Mathlib.Omega.{arith}
use lib.ListN.{length, get_or, length-append, get_or-append}
use lib.Seq.{ext_get_or, get_or-append-add}
use Rattle.std.proofs.lemmas.Bool.{cases_lt}
use Rattle.layout.specs.Raster.{raster_row, raster}

pub le_or_lt : (a b : ℕ) → (a ≤ b) ⊎ (b < a)
le_or_lt a b = ⊎_elim inr inl (cases_lt b a)

-- sides of at most 8,192 have a product far below 2 ^ 63
pub small_product : {a b : ℕ} → a ≤ 8192 → b ≤ 8192 → a * b ≤ 67108864
small_product p q = mul-le-mul p q

-- a row ends before the next one begins
pub rows_apart : (w : ℕ) {y z : ℕ} → y < z → y * w + w ≤ z * w
rows_apart w {y} {z} h = rw (suc-mul y w) at (mul-le-mul_right {m = suc y} {n = z} w h)

pub row_within : (w h : ℕ) {y : ℕ} → y < h → y * w + w ≤ w * h
row_within w h {y} l = omega (arith, rows_apart w l, mul_comm w h)

-- ---- what a row and a raster hold

pub row_length : (w : ℕ) (f : ℕ → ℕ) → length (raster_row w f) ≡ w
unfolding raster_row
row_length zero f = refl
row_length (suc w) f = length-append (raster_row w f) (f w ∷ []) ∙ omega (arith, row_length w f)

snoc_at : (xs : List ℕ) (v : ℕ) (n i : ℕ) → length xs ≡ n → i ≡ n → get_or (xs ++ (v ∷ [])) i 0 ≡ v
snoc_at xs v n i l e = ap (λ (k : ℕ). get_or (xs ++ (v ∷ [])) k 0) (omega arith) ∙ get_or-append-add xs (v ∷ []) 0 0

pub row_at_lem : (w : ℕ) (f : ℕ → ℕ) (x : ℕ) → x < w → get_or (raster_row w f) x 0 ≡ f x
unfolding raster_row
row_at_lem zero f x h = absurd (omega arith)
row_at_lem (suc w) f x h =
    ⊎_elim
    (λ (e : x ≡ w). snoc_at (raster_row w f) (f w) w x (row_length w f) e ∙ ap f (sym e))
    (λ (m : x < w). get_or-append (raster_row w f) (f w ∷ []) 0 x (omega (arith, row_length w f)) ∙ row_at_lem w f x m)
    (eq-or-lt_of_le (le_of_suc-le-suc h))

pub raster_length : (w h : ℕ) (f : ℕ → ℕ → ℕ) → length (raster w h f) ≡ w * h
unfolding raster
raster_length w zero f = sym (mul-zero w)
raster_length w (suc h) f = length-append (raster w h f) (raster_row w (λ x. f x h)) ∙ omega (arith, raster_length w h f, row_length w (λ x. f x h), mul-suc w h)

pub raster_at : (w h : ℕ) (f : ℕ → ℕ → ℕ) (x y : ℕ) → x < w → y < h → get_or (raster w h f) (y * w + x) 0 ≡ f x y
unfolding raster
raster_at w zero f x y p q = absurd (omega arith)
raster_at w (suc h) f x y p q =
    let rest = raster_row w (λ x. f x h) in
    ⊎_elim
    (λ (e : y ≡ h).
    ap (λ (k : ℕ). get_or (raster w h f ++ rest) k 0) (ap (λ (k : ℕ). k * w + x) e ∙ omega (arith, raster_length w h f, mul_comm w h))
    ∙ get_or-append-add (raster w h f) rest x 0
    ∙ row_at_lem w (λ x. f x h) x p
    ∙ ap (f x) (sym e))
    (λ (m : y < h). get_or-append (raster w h f) rest 0 (y * w + x) (omega (arith, raster_length w h f, row_within w h m)) ∙ raster_at w h f x y p m)
    (eq-or-lt_of_le (le_of_suc-le-suc q))

-- a list as long as a raster that holds f at every place is that raster
pub raster_is : (w h : ℕ) (f : ℕ → ℕ → ℕ) (out : List ℕ) → length out ≡ w * h → ((x y : ℕ) → x < w → y < h → get_or out (y * w + x) 0 ≡ f x y) → out ≡ raster w h f
raster_is w h f out l right = ext_get_or 0 out (raster w h f) (l ∙ sym (raster_length w h f)) at
  where
    wide : (w n : ℕ) → n < w * h → 0 < w
    wide zero n m = absurd (omega (arith, zero-mul h))
    wide (suc w) n m = omega arith

    at : (i : ℕ) → i < length out → get_or out i 0 ≡ get_or (raster w h f) i 0
    at i m =
        let some : 0 < w = wide w i (omega arith) in
        let x = i % w in
        let y = i / w in
        let in_row : x < w = mod-lt i some in
        let in_rows : y < h = (div-lt_iff_lt-mul some).1 (omega (arith, mul_comm w h)) in
        let place : y * w + x ≡ i = div-add-mod' i w in
        ap (λ (k : ℕ). get_or out k 0) (sym place) ∙ right x y in_row in_rows ∙ sym (raster_at w h f x y in_row in_rows) ∙ ap (λ (k : ℕ). get_or (raster w h f) k 0) place
