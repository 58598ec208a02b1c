-- What a "yes" to each question means as plain facts, and that the facts give the "yes".
use mathlib.Core.Path.{◌≡◌, refl, sym}
use mathlib.Core.Bool.{true, true≢false}
use mathlib.Core.List.{List}
use Prim.Native.Nat.{ℕ, ◌-◌, ◌*◌, ◌≤◌, ◌<◌}
use native.Mathlib.Omega.{arith}
use lib.Dec.{leb, eqb}
use lib.IntN.{ℤ, pos, negsuc, nat_abs}
use lib.ListN.{length, get_or}
use lib.Signed.{non_neg}
use borrow.Author.Tests.{leb-true, eqb-true, le-leb, eq-eqb}
use Rattle.layout.specs.declared.sides.Sides.{Sides}
use Rattle.layout.specs.Sides.{side_fits, levelled_sides_fit, sides_fit, raster_fits}
use Rattle.layout.specs.Tables.{entry, entry_fits, entries_fit, shears_long, shears_fit}
use Rattle.layout.specs.Steps.{Table, Sheared}
use Rattle.lists.proofs.Every.{and_both, every_at, every_of}
use Rattle.layout.proofs.Every.{and_parts}
use Rattle.layout.proofs.Entries.{whole_not_below}

-- ---- question 1

pub record SidesAre (s : Sides) : Type 0 where
  pub pw_some : 1 ≤ s.pw
  pub ph_some : 1 ≤ s.ph
  pub w_most : s.w ≤ 8192
  pub h_most : s.h ≤ 8192
  pub page_wide : s.pw ≤ s.w
  pub page_high : s.ph ≤ s.h

side_yes : (n : ℕ) → side_fits n ≡ true → (1 ≤ n) × (n ≤ 8192)
side_yes n h = let p = and_parts (leb 1 n) (leb n 8192) h in (leb-true 1 n p.0, leb-true n 8192 p.1)

-- question 1 where a call is given the levelled sides alone
pub sides_say : (w h : ℕ) → levelled_sides_fit w h ≡ true → (w ≤ 8192) × (h ≤ 8192)
sides_say w h t = let p = and_parts (side_fits w) (side_fits h) t in ((side_yes w p.0).1, (side_yes h p.1).1)

side_of : (n : ℕ) → 1 ≤ n → n ≤ 8192 → side_fits n ≡ true
side_of n p q = and_both (le-leb 1 n p) (le-leb n 8192 q)

pub sides_yes : (s : Sides) → sides_fit s ≡ true → SidesAre s
unfolding sides_fit
sides_yes s h =
    let halves = and_parts _ _ h in
    let all = and_parts _ _ halves.0 in
    let page = and_parts (side_fits s.pw) (side_fits s.ph) all.0 in
    let levelled = and_parts (side_fits s.w) (side_fits s.h) all.1 in
    let order = and_parts (leb s.pw s.w) (leb s.ph s.h) halves.1 in
    record {
      pw_some = (side_yes s.pw page.0).0;
      ph_some = (side_yes s.ph page.1).0;
      w_most = (side_yes s.w levelled.0).1;
      h_most = (side_yes s.h levelled.1).1;
      page_wide = leb-true s.pw s.w order.0;
      page_high = leb-true s.ph s.h order.1;
    }

pub sides_of : (s : Sides) → SidesAre s → sides_fit s ≡ true
unfolding sides_fit
sides_of s a =
    and_both
    (and_both
    (and_both (side_of s.pw a.pw_some (omega (arith, a.page_wide, a.w_most))) (side_of s.ph a.ph_some (omega (arith, a.page_high, a.h_most))))
    (and_both (side_of s.w (omega (arith, a.pw_some, a.page_wide)) a.w_most) (side_of s.h (omega (arith, a.ph_some, a.page_high)) a.h_most)))
    (and_both (le-leb s.pw s.w a.page_wide) (le-leb s.ph s.h a.page_high))

-- ---- the lengths of rasters

pub raster_yes : (w h n : ℕ) → raster_fits w h n ≡ true → n ≡ w * h
unfolding raster_fits
raster_yes w h n t = eqb-true n (w * h) t

pub raster_of : (w h n : ℕ) → n ≡ w * h → raster_fits w h n ≡ true
unfolding raster_fits
raster_of w h n e = eq-eqb n (w * h) e

-- ---- questions 3 and 4 of the tables

whole_of : (z : ℤ) → non_neg z ≡ true → z ≡ pos (nat_abs z)
whole_of (pos n) t = refl
whole_of (negsuc n) t = absurd (true≢false (sym t))

module _ (n limit : ℕ) (table : List ℤ) where
  pub table_yes : length table ≡ n → entries_fit limit table ≡ true → Table n limit table
  unfolding entries_fit
  table_yes l h = record { long = l; whole = λ i m. whole_of (get_or table i (pos 0)) (at i m).0; most = λ i m. leb-true (entry table i) limit (at i (omega arith)).1 }
    where
      at : (i : ℕ) → i < length table → (non_neg (get_or table i (pos 0)) ≡ true) × (leb (entry table i) limit ≡ true)
      at i m = and_parts (non_neg (get_or table i (pos 0))) (leb (entry table i) limit) (every_at (length table) (entry_fits limit table) h i m)

  pub table_of : Table n limit table → entries_fit limit table ≡ true
  unfolding entries_fit
  table_of t = every_of (length table) (entry_fits limit table) (λ i m. and_both (whole_not_below (get_or table i (pos 0)) (entry table i) (t.whole i m)) (le-leb (entry table i) limit (t.most i (omega (arith, t.long)))))

module _ (sides : Sides) (shear shear_x : List ℤ) where
  pub long_yes : shears_long sides shear shear_x ≡ true → (length shear ≡ sides.pw) × (length shear_x ≡ sides.h)
  long_yes h =
      let p = and_parts (eqb (length shear) sides.pw) (eqb (length shear_x) sides.h) h in
      (eqb-true (length shear) sides.pw p.0, eqb-true (length shear_x) sides.h p.1)

  pub long_of : length shear ≡ sides.pw → length shear_x ≡ sides.h → shears_long sides shear shear_x ≡ true
  long_of p q = and_both (eq-eqb (length shear) sides.pw p) (eq-eqb (length shear_x) sides.h q)

  -- questions 1, 3 and 4 together
  pub sheared_yes : sides_fit sides ≡ true → shears_long sides shear shear_x ≡ true → shears_fit sides shear shear_x ≡ true → Sheared sides shear shear_x
  sheared_yes s l f =
      let a = sides_yes sides s in
      let long = long_yes l in
      let fit = and_parts (entries_fit (sides.h - sides.ph) shear) (entries_fit (sides.w - sides.pw) shear_x) f in
      record {
        page_wide = a.page_wide;
        page_high = a.page_high;
        wide = a.w_most;
        high = a.h_most;
        columns = table_yes sides.pw (sides.h - sides.ph) shear long.0 fit.0;
        rows = table_yes sides.h (sides.w - sides.pw) shear_x long.1 fit.1;
      }

  pub sheared_of : Sheared sides shear shear_x → (shears_long sides shear shear_x ≡ true) × (shears_fit sides shear shear_x ≡ true)
  sheared_of s = (
    long_of s.columns.long s.rows.long,
    and_both (table_of sides.pw (sides.h - sides.ph) shear s.columns) (table_of sides.h (sides.w - sides.pw) shear_x s.rows),
  )
