-- The samples lie in two areas, and the counts have room for them: at most eight places wide, and as long as the ruling.
use mathlib.Core.Path.{◌≡◌, sym, ap₂, ◌∙◌}
use mathlib.Core.Bool.{Bool, true, false}
use mathlib.Core.List.{List, ◌++◌}
use Prim.Native.Nat.{ℕ, suc, ◌+◌, ◌*◌, ◌<◌, ◌≤◌}
use native.Mathlib.Nat.{add-mul, mul-add, suc-mul, mul_comm, mul-le-mul, mul-le-mul_right, le_trans, le_of_eq}
use native.Mathlib.Omega.{arith}
use lib.Dec.{eqb}
use lib.ListN.{length, get_or, length-append}
use Rattle.lists.proofs.Sizes.{keep_size_le}
use Rattle.rects.specs.declared.Rect.{Rect}
use Rattle.rects.specs.Rects.{width_of, height_of}
use Rattle.rects.proofs.Questions.{Inside}
use Rattle.paper.specs.declared.areas.Strips.{Strips}
use Rattle.paper.specs.declared.areas.Area.{Area}
use Rattle.paper.specs.Pixels.{run, pixels_in, samples}
use Rattle.paper.specs.Steps.{many, line, RoomFor, Clear, Counted, Beside, AreaInside, Sampled, pixels_of}
use Rattle.paper.proofs.Many.{counted_then}
use Rattle.paper.proofs.Pixels.{row_pixels, rows_more, rows_split, columns_split, pixels_number, run_length}

-- ---- the rows of an area

area_number_lem : (raster : List ℕ) (w x y columns k : ℕ) → length (pixels_in raster w (run x columns) (run y k)) ≡ k * columns
area_number_lem raster w x y columns k = pixels_number raster w (run x columns) (run y k) ∙ ap₂ ◌*◌ (run_length y k) (run_length x columns)

-- a count grows by at most the number of pixels counted
pub grown_le : (xs counts counts' : List ℕ) (n v : ℕ) → length xs ≡ n → Counted xs counts counts' → v < 256 → get_or counts' v 0 ≤ get_or counts v 0 + n
grown_le xs counts counts' n v e c l = omega (arith, c.grown v l, keep_size_le (eqb v) xs)

pub room_left : (raster : List ℕ) (w x y columns rows k : ℕ) (counts counts' : List ℕ) → RoomFor (rows * columns) counts → length counts' ≡ length counts → k < rows → Counted (pixels_in raster w (run x columns) (run y k)) counts counts' → RoomFor columns counts'
room_left raster w x y columns rows k counts counts' room e l c =
    let a : suc k * columns ≤ rows * columns = mul-le-mul_right columns l in
    let s = suc-mul k columns in
    record {
      all = omega (arith, room.all);
      each = λ v b. omega (arith, room.each v b, grown_le (pixels_in raster w (run x columns) (run y k)) counts counts' (k * columns) v (area_number_lem raster w x y columns k) c b);
    }

pub area_more : (raster : List ℕ) (w x y columns k : ℕ) (a b c : List ℕ) → Counted (pixels_in raster w (run x columns) (run y k)) a b → Counted (line raster ((y + k) * w + x) columns 1) b c → Counted (pixels_in raster w (run x columns) (run y (k + 1))) a c
area_more raster w x y columns k a b c p q =
    rw (rows_more raster w (run x columns) y k, ← row_pixels raster w x (y + k) columns) (counted_then (pixels_in raster w (run x columns) (run y k)) (line raster ((y + k) * w + x) columns 1) a b c p q)

-- ---- room for two areas

pub room_second : (raster : List ℕ) (w h : ℕ) (a : Area) (n : ℕ) (counts counts' : List ℕ) → AreaInside w h a → n ≤ 65536 → Clear counts → length counts' ≡ length counts → Counted (pixels_of raster w a) counts counts' → RoomFor n counts'
room_second raster w h a n counts counts' inside l clear e c = record {
  all = omega (arith, clear.all);
  each = λ v b. omega (arith, inside.small, clear.each v b, grown_le (pixels_of raster w a) counts counts' (a.rows * a.columns) v (area_number_lem raster w a.x a.y a.columns a.rows) c b);
}

-- ---- the two areas

small_area : (few long : ℕ) → few ≤ 8 → long ≤ 8192 → few * long ≤ 65536
small_area few long F L = mul-le-mul F L

two_runs : (s : Strips) → length (run s.first s.firsts ++ run s.second s.seconds) ≡ s.firsts + s.seconds
two_runs s = length-append (run s.first s.firsts) (run s.second s.seconds) ∙ ap₂ ◌+◌ (run_length s.first s.firsts) (run_length s.second s.seconds)

module _ (w h : ℕ) (r : Rect) (W : w ≤ 8192) (H : h ≤ 8192) (inside : Inside w h r) (s : Strips) where
  -- a horizontal ruling's samples are rows above and below it
  pub sampled_rows : (columns : ℕ) (horizontal : Bool) → columns ≡ width_of r → horizontal ≡ true → Beside h r.y0 r.y1 s
      → Sampled w h r horizontal (record { first = record { x = r.x0; columns = columns; y = s.first; rows = s.firsts }; second = record { x = r.x0; columns = columns; y = s.second; rows = s.seconds } })
  unfolding samples
  sampled_rows columns horizontal e t b =
      let right : r.x0 + columns ≤ w = omega (arith, inside.wide, inside.right) in
      let long : columns ≤ 8192 = omega arith in
      rw t (record {
        first_inside = record { right = right; bottom = b.first_inside; small = small_area s.firsts columns (omega (arith, b.few)) long };
        second_inside = record { right = right; bottom = b.second_inside; small = small_area s.seconds columns (omega (arith, b.few)) long };
        same = λ raster q. ap₂ (λ (c : ℕ) (ys : List ℕ). many q (pixels_in raster w (run r.x0 c) ys)) (sym e) b.places ∙ rows_split raster w q (run r.x0 columns) (run s.first s.firsts) (run s.second s.seconds);
        number = λ raster. ap₂ (λ (c : ℕ) (ys : List ℕ). length (pixels_in raster w (run r.x0 c) ys)) (sym e) b.places
            ∙ pixels_number raster w (run r.x0 columns) (run s.first s.firsts ++ run s.second s.seconds)
            ∙ ap₂ ◌*◌ (two_runs s) (run_length r.x0 columns) ∙ add-mul s.firsts s.seconds columns;
      })

  -- a vertical ruling's samples are columns to the left and to the right of it
  pub sampled_columns : (rows : ℕ) (horizontal : Bool) → rows ≡ height_of r → horizontal ≡ false → Beside w r.x0 r.x1 s
      → Sampled w h r horizontal (record { first = record { x = s.first; columns = s.firsts; y = r.y0; rows = rows }; second = record { x = s.second; columns = s.seconds; y = r.y0; rows = rows } })
  unfolding samples
  sampled_columns rows horizontal e t b =
      let bottom : r.y0 + rows ≤ h = omega (arith, inside.high, inside.bottom) in
      let long : rows ≤ 8192 = omega arith in
      rw t (record {
        first_inside = record { right = b.first_inside; bottom = bottom; small = le_trans (le_of_eq (mul_comm rows s.firsts)) (small_area s.firsts rows (omega (arith, b.few)) long) };
        second_inside = record { right = b.second_inside; bottom = bottom; small = le_trans (le_of_eq (mul_comm rows s.seconds)) (small_area s.seconds rows (omega (arith, b.few)) long) };
        same = λ raster q. ap₂ (λ (n : ℕ) (xs : List ℕ). many q (pixels_in raster w xs (run r.y0 n))) (sym e) b.places ∙ columns_split raster w q (run s.first s.firsts) (run s.second s.seconds) (run r.y0 rows);
        number = λ raster. ap₂ (λ (n : ℕ) (xs : List ℕ). length (pixels_in raster w xs (run r.y0 n))) (sym e) b.places
            ∙ pixels_number raster w (run s.first s.firsts ++ run s.second s.seconds) (run r.y0 rows)
            ∙ ap₂ ◌*◌ (run_length r.y0 rows) (two_runs s) ∙ mul-add rows s.firsts s.seconds;
      })
