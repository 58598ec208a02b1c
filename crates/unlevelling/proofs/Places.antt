-- Where page pixels stand in the levelled raster: inside it, and side by side where columns share a shear.
use mathlib.Core.Path.{◌≡◌, ap, ap₂, ◌∙◌}
use mathlib.Core.List.{List}
use Prim.Native.Nat.{ℕ, ◌+◌, ◌-◌, ◌*◌, ◌≤◌, ◌<◌}
use native.Mathlib.Omega.{arith}
use lib.IntN.{ℤ}
use lib.ListN.{length, get_or, set, take, drop, length-drop}
use lib.Seq.{length-take-le, get_or-take, get_or-drop}
use Rattle.layout.specs.Tables.{entry}
use Rattle.layout.specs.declared.sides.Sides.{Sides}
use Rattle.layout.specs.Steps.{Shears, NotBelow}
use Rattle.layout.specs.Level.{level_row, level_column, pixel_in}
use Rattle.layout.proofs.Places.{small_product, row_within}
use Rattle.layout.proofs.Levelling.{reach_within}
use Rattle.shear_runs.specs.Steps.{Run, Frame}
use Rattle.shear_runs.proofs.Parts.{put}
use Rattle.shear_runs.proofs.Areas.{holds_in, part_shows, place_shows_lem}
use Rattle.unlevelling.specs.Steps.{Archived, PageLong, BackArea, PageColumns}

-- row, column and width are at most 8,192, so a sum and a product of two of them are small
pub small : {sides : Sides} {shear_x : List ℤ} {x y : ℕ} → Frame sides shear_x → x < sides.pw → y < sides.h
    → (y < length shear_x) × (NotBelow shear_x × ((x + entry shear_x y ≤ 8192) × ((y * sides.w ≤ 67108864) × ((x + entry shear_x y) * sides.w ≤ 67108864))))
small {sides} {shear_x} {x} {y} F p q =
    let column : x + entry shear_x y ≤ 8192 = omega (arith, F.rows.most y q, F.page_wide, F.wide) in
    (omega (arith, F.rows.long), (F.rows.whole, (column, (small_product {a = y} {b = sides.w} (omega (arith, F.high)) F.wide, small_product {a = x + entry shear_x y} {b = sides.w} column F.wide))))

module _ (shears : Shears) (level : List ℕ) (given : Archived shears level) where
  abbrev place : ℕ → ℕ → ℕ
  place X Y = level_row shears.shear X Y * shears.sides.w + level_column shears.shear shears.shear_x X Y

  -- so many rows below, where that is the column's shear
  pub place_below : (X Y down : ℕ) → down ≡ entry shears.shear X → (Y + down) * shears.sides.w + (X + entry shears.shear_x (Y + down)) ≡ place X Y
  place_below X Y down e = ap (λ (s : ℕ). (Y + s) * shears.sides.w + (X + entry shears.shear_x (Y + s))) e

  -- a pixel's place lies in the raster
  pub place_within : (X Y : ℕ) → X < shears.sides.pw → Y < shears.sides.ph → (place X Y < length level) × (length level ≤ 67108864)
  place_within X Y p q =
      let s = given.sheared in
      let within = reach_within shears.sides shears.shear shears.shear_x s X Y p q in
      (omega (arith, row_within shears.sides.w shears.sides.h {y = level_row shears.shear X Y} within.1, given.level_long, within.0), omega (arith, given.level_long, small_product s.wide s.high))

  module _ (out : List ℕ) (page : PageLong shears.sides out) (y : ℕ) (in_rows : y < shears.sides.ph) where
    -- a page row lies in its raster
    pub page_row : (y * shears.sides.pw + shears.sides.pw ≤ length out) × (length out ≤ 67108864)
    page_row =
        let s = given.sheared in
        let small = small_product {a = shears.sides.pw} {b = shears.sides.ph} (omega (arith, s.page_wide, s.wide)) (omega (arith, s.page_high, s.high)) in
        (omega (arith, row_within shears.sides.pw shears.sides.ph in_rows), omega arith)

    -- one pixel, written
    pub pixel_shows : (x : ℕ) → x < shears.sides.pw → (v : ℕ) → v ≡ pixel_in shears.sides level shears.shear shears.shear_x x y → (s : ℕ) → s ≡ y * shears.sides.pw + x → BackArea shears level (PageColumns x (x + 1)) y (y + 1) out (set out s v)
    pixel_shows x p v is s is-s =
        rw is-s (holds_in (place_shows_lem shears.sides.pw (pixel_in shears.sides level shears.shear shears.shear_x) x y out v p (omega (arith, page_row.0)) is) (λ i z l h. (omega (arith, h.1.0, h.1.1), omega (arith, h.0.0, h.0.1))))

    -- a run of the row
    module _ (from to : ℕ) (run : Run shears.shear from to) where
      -- its columns are the page's
      pub run_on_page : (from < shears.sides.pw) × (to ≤ shears.sides.pw)
      run_on_page = let long = given.sheared.columns.long in (omega (arith, run.more, run.within), omega (arith, run.within))

      -- they stand side by side
      next : (k : ℕ) → k < to - from → place (from + k) y ≡ place from y + k
      next k h =
          let same = run.same (from + k) (omega arith) (omega arith) in
          let row : level_row shears.shear (from + k) y ≡ level_row shears.shear from y = omega arith in
          let column : level_column shears.shear shears.shear_x (from + k) y ≡ level_column shears.shear shears.shear_x from y + k = omega (arith, ap (entry shears.shear_x) row) in
          ap₂ (λ (r c : ℕ). r * shears.sides.w + c) row column ∙ omega arith

      -- the run ends in the levelled raster
      pub run_within : place from y + (to - from) ≤ length level
      run_within =
          let last = to - from - 1 in
          let l : last < to - from = omega (arith, run.more) in
          let inside = (place_within (from + last) y (omega (arith, run.more, run_on_page.1)) in_rows).0 in
          omega (arith, next last l)

      -- what is copied shows its pixels; s and n are where the run begins in the page, and how long it is
      pub run_shows : (s n m start : ℕ) → s ≡ y * shears.sides.pw + from → n ≡ to - from → m ≡ to - from → start ≡ place from y → BackArea shears level (PageColumns from to) y (y + 1) out (put s n (take m (drop start level)) out)
      run_shows s n m start is-s is-n is_m is-start =
          let f = pixel_in shears.sides level shears.shear shears.shear_x in
          let copied = take m (drop start level) in
          part_shows shears.sides.pw f (λ _. 0) from to y s n out run.more (omega (arith, run_on_page.1)) page_row.0 (omega arith) is-n copied long shows
        where
          long : length (take m (drop start level)) ≡ n
          long = length-take-le m (drop start level) (omega (arith, length-drop start level, run_within)) ∙ omega arith

          shows : (k : ℕ) → k < n → get_or (take m (drop start level)) k 0 ≡ pixel_in shears.sides level shears.shear shears.shear_x (0 + from + k) y
          shows k h =
              let here : from + k ≡ 0 + from + k = omega arith in
              get_or-take m (drop start level) k 0 (omega arith)
              ∙ get_or-drop start level k 0
              ∙ ap (λ (i : ℕ). get_or level i 0) (omega (arith, next k (omega arith)))
              ∙ ap (λ (X : ℕ). pixel_in shears.sides level shears.shear shears.shear_x X y) here
