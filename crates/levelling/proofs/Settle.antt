-- What levelling's steps leave, put together: parts of rows, margins, and all columns of a band.
use mathlib.Core.Path.{◌≡◌, refl, sym, ap, ◌∙◌}
use mathlib.Core.Bool.{Bool}
use mathlib.Core.Logic.{◌⊎◌, inl, inr, ⊎_elim}
use mathlib.Core.List.{List}
use Prim.Native.Nat.{ℕ, ◌+◌, ◌-◌, ◌*◌, ◌≤◌, ◌<◌}
use native.Mathlib.Omega.{arith}
use lib.ListN.{length, get_or, take, drop, replicate, length-drop, length-replicate, get_or-replicate}
use lib.Seq.{length-take-le}
use Rattle.layout.specs.Tables.{entry}
use Rattle.layout.specs.Steps.{Shears}
use Rattle.shear_runs.specs.Steps.{Together, Shows, InRows, Columns, All}
use Rattle.levelling.specs.Steps.{Painted, Ready, Whitened, LevelledArea, Outside, Margins}
use Rattle.layout.specs.Level.{page_shows, place_shows}
use Rattle.layout.proofs.Places.{le_or_lt, row_within}
use Rattle.layout.proofs.Shows.{place_on, place_beside}
use Rattle.shear_runs.proofs.Parts.{put, put_length}
use Rattle.shear_runs.proofs.Areas.{holds_then, holds_in, part_holds, part_long, part_shows}

-- in one row, the places of columns that are levelled together
module _ (shears : Shears) (gray : List ℕ) (out : List ℕ) (from to y : ℕ) {run : Bool} (ready : Ready shears gray out) (part : Together shears.shear from to run) (in_rows : y < shears.sides.h) where
  -- the row's part that they take
  pub part_within : (to ≤ shears.sides.pw) × ((entry shears.shear_x y + to ≤ shears.sides.w) × (y * shears.sides.w + shears.sides.w ≤ length out))
  part_within =
      let long = ready.sheared.columns.long in
      let most = ready.sheared.rows.most y in_rows in
      let last = row_within shears.sides.w shears.sides.h in_rows in
      (omega (arith, part.within), (omega (arith, part.within, ready.sheared.page_wide), omega (arith, ready.out_long)))

  -- what is lent of the row is as long as they are many
  lent : (s n : ℕ) → s ≡ y * shears.sides.w + entry shears.shear_x y + from → n ≡ to - from → length (take n (drop s out)) ≡ n
  lent s n is-s is-n =
      let room = part_within in
      part_long shears.sides.w (place_shows shears.sides gray shears.shear shears.shear_x) (entry shears.shear_x) from to y s n out part.more room.1.0 room.1.1 is-s is-n

  pub part_settled : (at s n : ℕ) (ys : List ℕ) → at ≡ entry shears.shear_x y → s ≡ y * shears.sides.w + at + from → n ≡ to - from → Painted (page_shows shears.sides gray shears.shear) from y (take n (drop s out)) ys → LevelledArea shears gray (Columns (entry shears.shear_x) from to) y (y + 1) out (put s n ys out)
  part_settled at s n ys is_at is-s is-n painted =
      let f = place_shows shears.sides gray shears.shear shears.shear_x in
      let room = part_within in
      let here : s ≡ y * shears.sides.w + entry shears.shear_x y + from = omega arith in
      let long = lent s n here is-n in
      part_shows shears.sides.w f (entry shears.shear_x) from to y s n out part.more room.1.0 room.1.1 here is-n ys (painted.long ∙ long)
      (λ k m. painted.shows k (omega arith) ∙ sym (place_on shears.sides gray shears.shear shears.shear_x (entry shears.shear_x y + from + k) y (from + k) (omega arith) (omega (arith, part.more, room.0))))

-- ---- white paper

pub white_then : {w : ℕ} {P Q R : ℕ → ℕ → Type 0} {a b c : List ℕ} → Whitened w P a b → Whitened w Q b c → ((x y : ℕ) → x < w → R x y → P x y ⊎ Q x y) → ((x y : ℕ) → x < w → P x y → R x y) → ((x y : ℕ) → x < w → Q x y → R x y) → Whitened w R a c
white_then p q cover from-p from-q =
    record { holds = λ f white. holds_then (p.holds f (λ x y l h. white x y l (from-p x y l h))) (q.holds f (λ x y l h. white x y l (from-q x y l h))) cover }

-- a part of row y that was written white
module _ (w y a n s : ℕ) (out ys : List ℕ) (place : s ≡ y * w + a) (in_row : a + n ≤ w) (room : y * w + w ≤ length out) (white : ys ≡ replicate (length (take n (drop s out))) 255) where
  margin_long : length (take n (drop s out)) ≡ n
  margin_long = length-take-le n (drop s out) (omega (arith, length-drop s out))

  pub white_long : length (put s n ys out) ≡ length out
  white_long = put_length s n ys out (ap length white ∙ length-replicate (length (take n (drop s out))) 255 ∙ margin_long) (omega arith)

  pub white_part : Whitened w (InRows y (y + 1) (λ x z. (a ≤ x) × (x < a + n))) out (put s n ys out)
  white_part = rw place (record { holds = at })
    where
      all_white : ys ≡ replicate n 255
      all_white = white ∙ ap (λ (k : ℕ). replicate k 255) margin_long

      at : (f : ℕ → ℕ → ℕ) → ((x z : ℕ) → x < w → InRows y (y + 1) (λ x z. (a ≤ x) × (x < a + n)) x z → f x z ≡ 255) → Shows w f (InRows y (y + 1) (λ x z. (a ≤ x) × (x < a + n))) out (put (y * w + a) n ys out)
      at f is_white =
          holds_in
          (part_holds w f y a n out ys (ap length all_white ∙ length-replicate n 255) in_row (omega arith)
          (λ k m. ap (λ (l : List ℕ). get_or l k 0) all_white ∙ get_or-replicate n k 255 0 m ∙ sym (is_white (a + k) y (omega arith) ((omega arith, omega arith), (omega arith, omega arith)))))
          (λ x z l h. (omega (arith, h.0.0, h.0.1), h.1))

-- the two margins of row y
pub white_margins : (w y from to : ℕ) (out ys zs : List ℕ) → (from ≤ to) × (to ≤ w) → y * w + w ≤ length out → let n = y * w + from - y * w in let m = y * w + w - (y * w + to) in ys ≡ replicate (length (take n (drop (y * w) out))) 255 → zs ≡ replicate (length (take m (drop (y * w + to) (put (y * w) n ys out)))) 255 → Whitened w (InRows y (y + 1) (Outside from to)) out (put (y * w + to) m zs (put (y * w) n ys out))
white_margins w y from to out ys zs order room left right =
    let n = y * w + from - y * w in
    let m = y * w + w - (y * w + to) in
    let long = white_long w y 0 n (y * w) out ys (omega arith) (omega (arith, order.0, order.1)) room left in
    white_then
    (white_part w y 0 n (y * w) out ys (omega arith) (omega (arith, order.0, order.1)) room left)
    (white_part w y to m (y * w + to) (put (y * w) n ys out) zs refl (omega (arith, order.1)) (omega (arith, long)) right)
    (λ x z l h. ⊎_elim (λ (g : x < from). inl (h.0, (omega arith, omega arith))) (λ (g : to ≤ x). inr (h.0, (g, omega (arith, order.1)))) h.1)
    (λ x z l h. (h.0, inl (omega (arith, h.1.1))))
    (λ x z l h. (h.0, inr h.1.0))

-- the margins of the rows up to y, then those of row y, where s is its shift
pub margins_more : (shears : Shears) (y0 y s : ℕ) {a b c : List ℕ} → y0 ≤ y → s ≡ entry shears.shear_x y → Whitened shears.sides.w (InRows y0 y (Margins shears)) a b → Whitened shears.sides.w (InRows y (y + 1) (Outside s (s + shears.sides.pw))) b c → Whitened shears.sides.w (InRows y0 (y + 1) (Margins shears)) a c
margins_more shears y0 y s order is-s p q = white_then p q cover (λ x z l h. ((h.0.0, omega (arith, h.0.1)), h.1)) back
  where
    cover : (x z : ℕ) → x < shears.sides.w → InRows y0 (y + 1) (Margins shears) x z → InRows y0 y (Margins shears) x z ⊎ InRows y (y + 1) (Outside s (s + shears.sides.pw)) x z
    cover x z l h =
        ⊎_elim
        (λ (m : y ≤ z).
        let same : entry shears.shear_x z ≡ s = ap (entry shears.shear_x) (omega (arith, h.0.1)) ∙ sym is-s in
        inr ((m, h.0.1), ⊎_elim (λ (g : x < entry shears.shear_x z). inl (omega arith)) (λ (g : entry shears.shear_x z + shears.sides.pw ≤ x). inr (omega arith)) h.1))
        (λ (m : z < y). inl ((h.0.0, m), h.1))
        (le_or_lt y z)

    back : (x z : ℕ) → x < shears.sides.w → InRows y (y + 1) (Outside s (s + shears.sides.pw)) x z → InRows y0 (y + 1) (Margins shears) x z
    back x z l h =
        let same : entry shears.shear_x z ≡ s = ap (entry shears.shear_x) (omega (arith, h.0.0, h.0.1)) ∙ sym is-s in
        ((omega (arith, h.0.0), h.0.1), ⊎_elim (λ (g : x < s). inl (omega arith)) (λ (g : s + shears.sides.pw ≤ x). inr (omega arith)) h.1)

-- the margins of a band, then all its columns
pub band_whole : (shears : Shears) (gray : List ℕ) (y0 y1 n : ℕ) {a b c : List ℕ} → shears.sides.pw ≤ n → Whitened shears.sides.w (InRows y0 y1 (Margins shears)) a b → LevelledArea shears gray (Columns (entry shears.shear_x) 0 n) y0 y1 b c → LevelledArea shears gray All y0 y1 a c
band_whole shears gray y0 y1 n whole p q =
    holds_then (p.holds (place_shows shears.sides gray shears.shear shears.shear_x) (λ x z l h. place_beside shears.sides gray shears.shear shears.shear_x x z h.1)) q (λ x z l h.
    ⊎_elim
    (λ (m : entry shears.shear_x z ≤ x). ⊎_elim (λ (g : entry shears.shear_x z + shears.sides.pw ≤ x). inl (h.0, inr g)) (λ (g : x < entry shears.shear_x z + shears.sides.pw). inr (h.0, (omega arith, omega arith))) (le_or_lt (entry shears.shear_x z + shears.sides.pw) x))
    (λ (m : x < entry shears.shear_x z). inl (h.0, inl m))
    (le_or_lt (entry shears.shear_x z) x))
