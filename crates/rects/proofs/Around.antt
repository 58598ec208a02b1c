-- Why `around` is the smallest rectangle: a union holds both its parts and lies inside whatever does.
use mathlib.Core.Path.{◌≡◌, refl, sym, ap, ◌∙◌, subst}
use mathlib.Core.Logic.{inl, inr}
use mathlib.Core.List.Memᴰ
use mathlib.Core.List.{List, [], ◌∷◌}
use Prim.Native.Nat.{ℕ, ◌+◌, ◌-◌, ◌≤◌, ◌<◌}
use native.Mathlib.Nat.{le_refl, le_trans, min-le_left, min-le_right, le-max_left, le-max_right, le-min, max-le, not-suc-le-zero}
use native.Mathlib.Numerals.{add-one}
use native.Mathlib.Omega.{arith}
use lib.ListN.{length, get_or, drop, drop_of_length-le}
use lib.Seq.{drop-cons}
use Rattle.lists.specs.Lists.{In}
use Rattle.lists.proofs.Keep.{at_in}
use Rattle.rects.specs.declared.Rect.{Rect}
use Rattle.rects.specs.Rects.{rect_at}
use Rattle.rects.specs.Steps.{Inside}
use Rattle.rects.specs.Around.{Holds, HoldsAll, Smallest, union_of, unioned, around}

holds_trans : (a b c : Rect) → Holds a b → Holds b c → Holds a c
holds_trans a b c h k = record { left = le_trans h.left k.left; top = le_trans h.top k.top; right = le_trans k.right h.right; bottom = le_trans k.bottom h.bottom }

union_first : (a b : Rect) → Holds (union_of a b) a
union_first a b = record { left = min-le_left a.x0 b.x0; top = min-le_left a.y0 b.y0; right = le-max_left a.x1 b.x1; bottom = le-max_left a.y1 b.y1 }

union_second : (a b : Rect) → Holds (union_of a b) b
union_second a b = record { left = min-le_right a.x0 b.x0; top = min-le_right a.y0 b.y0; right = le-max_right a.x1 b.x1; bottom = le-max_right a.y1 b.y1 }

union_least : (s a b : Rect) → Holds s a → Holds s b → Holds s (union_of a b)
union_least s a b h k = record { left = le-min h.left k.left; top = le-min h.top k.top; right = max-le h.right k.right; bottom = max-le h.bottom k.bottom }

unioned_first : (rects : List ℕ) (r : Rect) (ks : List ℕ) → Holds (unioned rects r ks) r
unfolding unioned
unioned_first rects r [] = record { left = le_refl r.x0; top = le_refl r.y0; right = le_refl r.x1; bottom = le_refl r.y1 }
unioned_first rects r (k ∷ ks) = holds_trans (unioned rects (union_of r (rect_at rects k)) ks) (union_of r (rect_at rects k)) r (unioned_first rects (union_of r (rect_at rects k)) ks) (union_first r (rect_at rects k))

unioned_holds : (rects : List ℕ) (r : Rect) (ks : List ℕ) → HoldsAll rects ks (unioned rects r ks)
unfolding unioned
unioned_holds rects r [] j m = absurd (Memᴰ.not-nil m)
unioned_holds rects r (k ∷ ks) j m =
    let u = union_of r (rect_at rects k) in
    elim (Memᴰ.cases_cons m) [
      | inl e ↦ subst (λ (i : ℕ). Holds (unioned rects u ks) (rect_at rects i)) (sym e) (holds_trans (unioned rects u ks) u (rect_at rects k) (unioned_first rects u ks) (union_second r (rect_at rects k)))
      | inr n ↦ unioned_holds rects u ks j n
    ]

unioned_least : (rects : List ℕ) (r s : Rect) (ks : List ℕ) → Holds s r → HoldsAll rects ks s → Holds s (unioned rects r ks)
unfolding unioned
unioned_least rects r s [] h k = h
unioned_least rects r s (j ∷ ks) h k = unioned_least rects (union_of r (rect_at rects j)) s ks (union_least s r (rect_at rects j) h (k j (Memᴰ.head refl))) (λ i m. k i (Memᴰ.tail m))

-- document 01's smallest rectangle around a set that has a member
pub around_smallest : (rects places : List ℕ) → 0 < length places → Smallest rects places (around rects places)
unfolding around
around_smallest rects [] h = absurd (not-suc-le-zero h)
around_smallest rects (k ∷ ks) h = record {
  holds = λ j m.
      elim (Memᴰ.cases_cons m) [
        | inl e ↦ subst (λ (i : ℕ). Holds (unioned rects (rect_at rects k) ks) (rect_at rects i)) (sym e) (unioned_first rects (rect_at rects k) ks)
        | inr n ↦ unioned_holds rects (rect_at rects k) ks j n
      ];
  least = λ s all. unioned_least rects (rect_at rects k) s ks (all k (Memᴰ.head refl)) (λ i m. all i (Memᴰ.tail m));
}

-- the whole picture
picture : ℕ → ℕ → Rect
picture w h = record { x0 = 0; y0 = 0; x1 = w - 1; y1 = h - 1 }

-- around rectangles that lie in a picture it lies in the picture
pub around_inside : {w h : ℕ} (rects places : List ℕ) → 0 < length places → ((i : ℕ) → In places i → Inside w h (rect_at rects i)) → Inside w h (around rects places)
unfolding picture
around_inside {w} {h} rects places some inside =
    let S = around_smallest rects places some in
    let first = at_in places 0 some in
    let r = inside (get_or places 0 0) first in
    let over = S.holds (get_or places 0 0) first in
    let under = S.least (picture w h) (λ i m. let q = inside i m in record { left = omega arith; top = omega arith; right = omega (arith, q.right); bottom = omega (arith, q.bottom) }) in
    record {
      wide = omega (arith, over.left, over.right, r.wide);
      high = omega (arith, over.top, over.bottom, r.high);
      right = omega (arith, under.right, r.right);
      bottom = omega (arith, under.bottom, r.bottom);
    }

-- ---- one place at a time

pub around_first : (rects places : List ℕ) → 0 < length places → around rects places ≡ unioned rects (rect_at rects (get_or places 0 0)) (drop 1 places)
unfolding around
around_first rects [] h = absurd (not-suc-le-zero h)
around_first rects (k ∷ ks) h = refl

pub unioned_step : (rects : List ℕ) (r : Rect) (places : List ℕ) (i : ℕ) → i < length places → unioned rects (union_of r (rect_at rects (get_or places i 0))) (drop (i + 1) places) ≡ unioned rects r (drop i places)
unfolding unioned
unioned_step rects r places i h = ap (λ (j : ℕ). unioned rects (union_of r (rect_at rects (get_or places i 0))) (drop j places)) (add-one i) ∙ ap (unioned rects r) (sym (drop-cons places i 0 h))

pub unioned_all : (rects : List ℕ) (r : Rect) (places : List ℕ) (i : ℕ) → length places ≤ i → unioned rects r (drop i places) ≡ r
unfolding unioned
unioned_all rects r places i h = ap (unioned rects r) (drop_of_length-le places h)
