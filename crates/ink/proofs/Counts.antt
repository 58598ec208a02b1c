-- How much ink a line has: one place more, never more than there are places, and where the places stand in the mask.
use mathlib.Core.Path.{◌≡◌, refl, sym, ap, ◌∙◌}
use mathlib.Core.Bool.{Bool, true, false, cond, not, ◌||◌}
use mathlib.Core.List.{List, [], ◌∷◌}
use Prim.Native.Nat.{ℕ, suc, ◌+◌, ◌-◌, ◌*◌, ◌≤◌, ◌<◌}
use native.Mathlib.Nat.{suc-mul, mul-le-mul_right}
use native.Mathlib.Numerals.{add-one}
use native.Mathlib.Omega.{arith}
use lib.Dec.{eqb, ltb}
use Rattle.std.specs.Int.{from_bool}
use Rattle.std.specs.List.{list_any, range_with_len}
use Rattle.std.proofs.lemmas.List.{ext_get_or}
use Rattle.std.proofs.lemmas.List.FromFn.{length-range_with_len, get_or-range_with_len}
use borrow.Author.Tests.{lt-ltb, le-ltb}
use lib.ListN.{length, get_or, take, drop, length-append, length-drop}
use lib.Seq.{length-take-le, get_or-take, get_or-drop}
use Rattle.lists.specs.Lists.{below, keep, any}
use Rattle.lists.proofs.Keep.{keep_append, keep_below_same, length_below, get_d_below, true_any, in_below}
use Rattle.lists.proofs.Sizes.{keep_size_le, keep_none}
use Rattle.rects.specs.Rects.{width_of, height_of}
use Rattle.rects.specs.declared.Rect.{Rect}
use Rattle.ink.specs.declared.Lines.{Lines}
use Rattle.ink.specs.declared.Lines.TheVariants.{Rows, Columns}
use Rattle.ink.specs.Ink.{Ink, Mask, ink_at, inked, many, row_ink, ink_in_rows}
use Rattle.ink.specs.Steps.{lines_of, Readable}

pub many_more : (q : ℕ → Bool) (n : ℕ) → many q (suc n) ≡ many q n + from_bool (q n)
many_more q n = ap length (keep_append q (below n) (n ∷ [])) ∙ length-append (keep q (below n)) (keep q (n ∷ [])) ∙ ap (λ (k : ℕ). many q n + k) (go (q n))
  where
    go : (b : Bool) → length (cond b (n ∷ []) []) ≡ from_bool b
    go true = refl
    go false = refl

-- the same as a loop meets it
pub many_next : (q : ℕ → Bool) (i : ℕ) {n o : ℕ} → n ≡ many q i → o ≡ from_bool (q i) → n + o ≡ many q (i + 1)
many_next q i e f = rw (add-one i) (omega (arith, many_more q i))

pub one_le : (b : Bool) {o : ℕ} → o ≡ from_bool b → o ≤ 1
one_le true e = omega arith
one_le false e = omega arith

pub many_le : (q : ℕ → Bool) (n : ℕ) → many q n ≤ n
many_le q n = omega (arith, keep_size_le q (below n), length_below n)

pub many_same : (q r : ℕ → Bool) (n : ℕ) → ((i : ℕ) → i < n → q i ≡ r i) → many q n ≡ many r n
many_same q r n h = ap length (keep_below_same q r n h)

-- some pass: the number of those that do is not 0
pub some_any : (q : ℕ → Bool) (s : List ℕ) → ltb 0 (length (keep q s)) ≡ any q s
some_any q [] = refl
some_any q (x ∷ xs) = go (some_any q xs) (q x)
  where
    go : ltb 0 (length (keep q xs)) ≡ any q xs → (b : Bool) → ltb 0 (length (cond b (x ∷ keep q xs) (keep q xs))) ≡ b || any q xs
    go e true = lt-ltb 0 (suc (length (keep q xs))) (omega arith)
    go e false = e

-- a chain over the places asks the same
pub some_in_range : (q : ℕ → Bool) (n : ℕ) → list_any q (range_with_len 0 n) ≡ ltb 0 (many q n)
some_in_range q n = ap (list_any q) all ∙ go (below n) ∙ sym (some_any q (below n))
  where
    all : range_with_len 0 n ≡ below n
    all =
        ext_get_or 0 (range_with_len 0 n) (below n) (length-range_with_len 0 n ∙ sym (length_below n))
        (λ i l. let h : i < n = omega (arith, l, length-range_with_len 0 n) in omega (arith, get_or-range_with_len 0 n i 0 h, get_d_below n i h))

    go : (s : List ℕ) → list_any q s ≡ any q s
    go [] = refl
    go (x ∷ xs) = ap (λ (b : Bool). q x || b) (go xs)

pub one_passes : (q : ℕ → Bool) (n i : ℕ) → i < n → q i ≡ true → true ≡ ltb 0 (many q n)
one_passes q n i l t = sym (some_any q (below n) ∙ true_any q (below n) i (in_below n i l) t)

pub none_passes : (q : ℕ → Bool) (n : ℕ) → ((i : ℕ) → i < n → q i ≡ false) → false ≡ ltb 0 (many q n)
none_passes q n h = sym (ap (λ (s : List ℕ). ltb 0 (length s)) (keep_none q n h) ∙ le-ltb 0 0 (omega arith))

-- ---- where the places of a rectangle stand

-- a row of the rectangle ends inside the mask
pub row_in_mask : (m : Mask) (r : Rect) → Readable m r → (j : ℕ) → j < height_of r → (r.y0 + j) * m.w + r.x1 + 1 ≤ length m.bytes
row_in_mask m r R j l =
    let a : suc (r.y0 + j) * m.w ≤ suc r.y1 * m.w = mul-le-mul_right m.w (omega (arith, R.high)) in
    omega (arith, suc-mul (r.y0 + j) m.w, R.right, R.bottom)

-- the bytes of a row's span are the ink there
pub span_ink : (m : Mask) (r : Rect) (j s n : ℕ) → s ≡ (r.y0 + j) * m.w + r.x0 → n ≡ width_of r
    → many (λ i. not (eqb (get_or (take n (drop s m.bytes)) i 0) 0)) n ≡ row_ink (inked m) r j
unfolding row_ink ink_at
span_ink m r j s n e f =
    many_same (λ i. not (eqb (get_or (take n (drop s m.bytes)) i 0) 0)) (λ i. inked m (r.x0 + i) (r.y0 + j)) n
    (λ i l. ap (λ (b : ℕ). not (eqb b 0)) (get_or-take n (drop s m.bytes) i 0 l ∙ get_or-drop s m.bytes i 0 ∙ ap (λ (k : ℕ). get_or m.bytes k 0) (place (r.y0 * m.w + j * m.w) i)))
    ∙ ap (λ (k : ℕ). many (λ i. inked m (r.x0 + i) (r.y0 + j)) k) f
  where
    place : (t i : ℕ) → s + i ≡ (r.y0 + j) * m.w + (r.x0 + i)
    place t i = omega arith

-- the same for a part of the mask from its start to its end, as it is lent
pub span_long : (m : Mask) (r : Rect) (j : ℕ) {s n e : ℕ} → e ≤ length m.bytes → s ≡ (r.y0 + j) * m.w + r.x0 → n ≡ width_of r → e ≡ s + n
    → many (λ i. not (eqb (get_or (take (e - s) (drop s m.bytes)) i 0) 0)) (length (take (e - s) (drop s m.bytes))) ≡ row_ink (inked m) r j
span_long m r j {s} {n} {e} h p f g =
    let size : e - s ≡ n = omega arith in
    let long : length (take (e - s) (drop s m.bytes)) ≡ n = length-take-le (e - s) (drop s m.bytes) (omega (arith, length-drop s m.bytes)) ∙ size in
    ap (λ (k : ℕ). many (λ i. not (eqb (get_or (take (e - s) (drop s m.bytes)) i 0) 0)) k) long
    ∙ ap (λ (l : ℕ). many (λ i. not (eqb (get_or (take l (drop s m.bytes)) i 0) 0)) n) size
    ∙ span_ink m r j s n p f

pub row_le : (m : Mask) (r : Rect) (j : ℕ) → row_ink (inked m) r j ≤ width_of r
unfolding row_ink
row_le m r j = many_le (λ i. inked m (r.x0 + i) (r.y0 + j)) (width_of r)

-- ---- the rows of a rectangle

pub rows_none : (ink : Ink) (r : Rect) → ink_in_rows ink r 0 ≡ 0
unfolding ink_in_rows
rows_none ink r = refl

pub rows_next : (ink : Ink) (r : Rect) (j : ℕ) {n k : ℕ} → n ≡ ink_in_rows ink r j → k ≡ row_ink ink r j → n + k ≡ ink_in_rows ink r (j + 1)
unfolding ink_in_rows
rows_next ink r j e f = rw (add-one j) (omega arith)

-- ---- lines

pub lines_le : (m : Mask) (r : Rect) → Readable m r → (lines : Lines) → lines_of r lines ≤ 8192
lines_le m r R Rows = omega (arith, R.low)
lines_le m r R Columns = omega (arith, R.right, R.narrow)
