-- Steps that write areas of a raster follow each other: areas grow, and what was right stays right.
use mathlib.Core.Path.{◌≡◌, refl, sym, ap, ◌∙◌, subst}
use mathlib.Core.Logic.{◌⊎◌, inl, inr, ⊎_elim}
use mathlib.Core.List.{List}
use Prim.Native.Nat.{ℕ, ◌+◌, ◌-◌, ◌*◌, ◌≤◌, ◌<◌}
use native.Mathlib.Nat.{eq-or-lt_of_le}
use native.Mathlib.Omega.{arith}
use native.Mathlib.Decide.{ℕ_discrete}
use lib.ListN.{length, get_or, set, take, drop, length-set, length-drop}
use lib.Seq.{length-take-le, get_or-set_same, get_or-set_other}
use Rattle.layout.specs.Raster.{raster}
use Rattle.layout.proofs.Places.{le_or_lt, rows_apart, raster_is}
use Rattle.shear_runs.specs.Steps.{Shows, InRows, Columns, All}
use Rattle.shear_runs.proofs.Parts.{put, put_length, put_inside, put_before, put_after}

-- nothing done is right in an area without places
pub holds_none : (w : ℕ) (f : ℕ → ℕ → ℕ) (area : ℕ → ℕ → Type 0) (out : List ℕ) → ((x y : ℕ) → x < w → area x y → ⊥) → Shows w f area out out
holds_none w f area out none = record { long = refl; kept = λ x y l h. h; right = λ x y l a. absurd (none x y l a) }

-- one step, then another
pub holds_then : {w : ℕ} {f : ℕ → ℕ → ℕ} {P Q R : ℕ → ℕ → Type 0} {a b c : List ℕ} → Shows w f P a b → Shows w f Q b c → ((x y : ℕ) → x < w → R x y → P x y ⊎ Q x y) → Shows w f R a c
holds_then p q cover =
    record {
      long = q.long ∙ p.long;
      kept = λ x y l h. q.kept x y l (p.kept x y l h);
      right = λ x y l r. ⊎_elim (λ h. q.kept x y l (p.right x y l h)) (λ h. q.right x y l h) (cover x y l r);
    }

-- a part of row y that was written with what is right there
module _ (w : ℕ) (f : ℕ → ℕ → ℕ) (y a n : ℕ) (out ys : List ℕ) (long : length ys ≡ n) (in_row : a + n ≤ w) (room : y * w + a + n ≤ length out) (shows : (k : ℕ) → k < n → get_or ys k 0 ≡ f (a + k) y) where
  out' : List ℕ
  out' = put (y * w + a) n ys out

  inside : (x : ℕ) → a ≤ x → x < a + n → get_or out' (y * w + x) 0 ≡ f x y
  unfolding out'
  inside x l m =
      let k = x - a in
      let place : y * w + x ≡ y * w + a + k = omega arith in
      let back : a + k ≡ x = omega arith in
      ap (λ (p : ℕ). get_or (put (y * w + a) n ys out) p 0) place ∙ put_inside (y * w + a) n ys out long room k (omega arith) ∙ shows k (omega arith) ∙ ap (λ (i : ℕ). f i y) back

  same_row : (x : ℕ) → x < w → get_or out (y * w + x) 0 ≡ f x y → get_or out' (y * w + x) 0 ≡ f x y
  unfolding out'
  same_row x l h =
      ⊎_elim
      (λ (m : a ≤ x). ⊎_elim (λ (r : a + n ≤ x). put_after (y * w + a) n ys out long room (y * w + x) (omega arith) ∙ h) (λ (r : x < a + n). inside x m r) (le_or_lt (a + n) x))
      (λ (m : x < a). put_before (y * w + a) n ys out long room (y * w + x) (omega arith) ∙ h)
      (le_or_lt a x)

  kept : (x z : ℕ) → x < w → get_or out (z * w + x) 0 ≡ f x z → get_or out' (z * w + x) 0 ≡ f x z
  unfolding out'
  kept x z l h =
      ⊎_elim
      (λ (m : y ≤ z).
      ⊎_elim
      (λ (e : y ≡ z). subst (λ (r : ℕ). get_or out (r * w + x) 0 ≡ f x r → get_or out' (r * w + x) 0 ≡ f x r) e (same_row x l) h)
      (λ (r : y < z). put_after (y * w + a) n ys out long room (z * w + x) (omega (arith, rows_apart w r)) ∙ h)
      (eq-or-lt_of_le m))
      (λ (m : z < y). put_before (y * w + a) n ys out long room (z * w + x) (omega (arith, rows_apart w m)) ∙ h)
      (le_or_lt y z)

  pub part_holds : Shows w f (λ x z. (z ≡ y) × ((a ≤ x) × (x < a + n))) out (put (y * w + a) n ys out)
  unfolding out'
  part_holds =
      record {
        long = put_length (y * w + a) n ys out long room;
        kept = kept;
        right = λ x z l h. subst (λ (r : ℕ). get_or out' (r * w + x) 0 ≡ f x r) (sym h.0) (inside x h.1.0 h.1.1);
      }

-- a smaller area
pub holds_in : {w : ℕ} {f : ℕ → ℕ → ℕ} {P R : ℕ → ℕ → Type 0} {a b : List ℕ} → Shows w f P a b → ((x y : ℕ) → x < w → R x y → P x y) → Shows w f R a b
holds_in p part = record { long = p.long; kept = p.kept; right = λ x y l r. p.right x y l (part x y l r) }

-- ---- row by row

module _ (w : ℕ) (f : ℕ → ℕ → ℕ) (area : ℕ → ℕ → Type 0) where
  pub rows_none : (y : ℕ) (out : List ℕ) → Shows w f (InRows y y area) out out
  rows_none y out = holds_none w f (InRows y y area) out (λ x z l h. omega (arith, h.0.0, h.0.1))

  -- the rows up to y, then those from y on
  pub rows_then : (y0 y y1 : ℕ) {a b c : List ℕ} → Shows w f (InRows y0 y area) a b → Shows w f (InRows y y1 area) b c → Shows w f (InRows y0 y1 area) a c
  rows_then y0 y y1 p q =
      holds_then p q (λ x z l h. ⊎_elim (λ (m : y ≤ z). inr ((m, h.0.1), h.1)) (λ (m : z < y). inl ((h.0.0, m), h.1)) (le_or_lt y z))

  pub rows_fewer : (y0 y1 y : ℕ) {a b : List ℕ} → y1 ≤ y → Shows w f (InRows y0 y area) a b → Shows w f (InRows y0 y1 area) a b
  rows_fewer y0 y1 y fewer p = holds_in p (λ x z l h. ((h.0.0, omega (arith, h.0.1)), h.1))

-- all rows are the raster
pub all_shown : (w h : ℕ) (f : ℕ → ℕ → ℕ) (out out' : List ℕ) (y : ℕ) → h ≤ y → length out ≡ w * h → Shows w f (InRows 0 y All) out out' → out' ≡ raster w h f
all_shown w h f out out' y whole long p = raster_is w h f out' (p.long ∙ long) (λ x z l m. p.right x z l ((omega arith, omega arith), tt))

-- ---- the columns of a band, part by part

module _ (w : ℕ) (f : ℕ → ℕ → ℕ) (at : ℕ → ℕ) where
  pub columns_none : (y0 y1 from : ℕ) (out : List ℕ) → Shows w f (InRows y0 y1 (Columns at from from)) out out
  columns_none y0 y1 from out = holds_none w f (InRows y0 y1 (Columns at from from)) out (λ x z l h. omega (arith, h.1.0, h.1.1))

  pub columns_then : (y0 y1 from to to' : ℕ) {a b c : List ℕ} → Shows w f (InRows y0 y1 (Columns at from to)) a b → Shows w f (InRows y0 y1 (Columns at to to')) b c → Shows w f (InRows y0 y1 (Columns at from to')) a c
  columns_then y0 y1 from to to' p q =
      holds_then p q (λ x z l h. ⊎_elim (λ (m : at z + to ≤ x). inr (h.0, (m, h.1.1))) (λ (m : x < at z + to). inl (h.0, (h.1.0, m))) (le_or_lt (at z + to) x))

  -- one part, in row y: s and n are where it begins in the raster, and how long it is
  module _ (from to y s n : ℕ) (out : List ℕ) (more : from < to) (in_row : at y + to ≤ w) (room : y * w + w ≤ length out) (is-s : s ≡ y * w + at y + from) (is-n : n ≡ to - from) where
    -- what is lent of the row is as long as the columns are many
    pub part_long : length (take n (drop s out)) ≡ n
    part_long = length-take-le n (drop s out) (omega (arith, length-drop s out))

    pub part_shows : (ys : List ℕ) → length ys ≡ n → ((k : ℕ) → k < n → get_or ys k 0 ≡ f (at y + from + k) y) → Shows w f (InRows y (y + 1) (Columns at from to)) out (put s n ys out)
    part_shows ys long shows =
        let whole : s ≡ y * w + (at y + from) = omega arith in
        let written = part_holds w f y (at y + from) n out ys long (omega arith) (omega arith) shows in
        rw whole (holds_in written (λ x z l h. let same : z ≡ y = omega (arith, h.0.0, h.0.1) in (same, (omega (arith, ap at same, h.1.0), omega (arith, ap at same, h.1.1)))))

-- a single place that was written with what is right there
module _ (w : ℕ) (f : ℕ → ℕ → ℕ) (x y : ℕ) (out : List ℕ) (v : ℕ) (in_row : x < w) (room : y * w + x < length out) (is : v ≡ f x y) where
  -- no other place has its index
  same_place : (i z : ℕ) → i < w → z * w + i ≡ y * w + x → (i ≡ x) × (z ≡ y)
  same_place i z l e =
      ⊎_elim
      (λ (m : y ≤ z). ⊎_elim (λ (g : y ≡ z). (omega (arith, ap (λ (k : ℕ). k * w) g), sym g)) (λ (g : y < z). absurd (omega (arith, rows_apart w g))) (eq-or-lt_of_le m))
      (λ (m : z < y). absurd (omega (arith, rows_apart w m)))
      (le_or_lt y z)

  pub place_shows_lem : Shows w f (λ i z. (i ≡ x) × (z ≡ y)) out (set out (y * w + x) v)
  place_shows_lem =
      record {
        long = length-set out (y * w + x) v;
        kept = λ i z l h.
            elim (ℕ_discrete (z * w + i) (y * w + x)) [
              | yes e ↦ let same = same_place i z l e in at_place i z same.0 same.1
              | no e ↦ get_or-set_other out (y * w + x) (z * w + i) v 0 e ∙ h
            ];
        right = λ i z l h. at_place i z h.0 h.1;
      }
    where
      at_place : (i z : ℕ) → i ≡ x → z ≡ y → get_or (set out (y * w + x) v) (z * w + i) 0 ≡ f i z
      at_place i z p q = rw (p, q) (get_or-set_same out (y * w + x) v 0 room ∙ is)
