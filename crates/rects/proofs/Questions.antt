-- What questions 5 and 6 say once they are answered yes.
use mathlib.Core.Path.{◌≡◌}
use mathlib.Core.Bool.{true, ◌&&◌}
use mathlib.Core.List.{List}
use Prim.Native.Nat.{ℕ, ◌+◌, ◌*◌, ◌/◌, ◌%◌, ◌≤◌, ◌<◌}
use native.Mathlib.Omega.{arith}
use lib.Dec.{leb, ltb, eqb}
use lib.ListN.{length}
use borrow.Author.Tests.{leb-true, ltb-true, eqb-true}
use Rattle.lists.proofs.Every.{and_first, and_second, every_at}
use Rattle.rects.specs.declared.Rect.{Rect}
pub use Rattle.rects.specs.Steps.{Inside}
use Rattle.rects.specs.Rects.{count, rect_at, inside, count_fits, all_inside}

pub inside_says : (w h : ℕ) (r : Rect) → inside w h r ≡ true → Inside w h r
inside_says w h r t =
    let a = leb r.x0 r.x1 in
    let b = leb r.y0 r.y1 in
    let c = ltb r.x1 w in
    let d = ltb r.y1 h in
    let abc = and_first (a && b && c) d t in
    let ab = and_first (a && b) c abc in
    record { wide = leb-true _ _ (and_first a b ab); high = leb-true _ _ (and_second a b ab); right = ltb-true _ _ (and_second (a && b) c abc); bottom = ltb-true _ _ (and_second (a && b && c) d t) }

pub all_inside_says : (w h : ℕ) (rects : List ℕ) → all_inside w h rects ≡ true → (k : ℕ) → k < count rects → Inside w h (rect_at rects k)
all_inside_says w h rects t k l = inside_says w h (rect_at rects k) (every_at (count rects) (λ j. inside w h (rect_at rects j)) t k l)

pub count_says : (most : ℕ) (rects : List ℕ) → count_fits most rects ≡ true → (length rects ≡ 4 * count rects) × (count rects ≤ most)
count_says most rects t =
    let e = eqb-true (length rects % 4) 0 (and_first (eqb (length rects % 4) 0) (leb (count rects) most) t) in
    (omega arith, leb-true _ _ (and_second (eqb (length rects % 4) 0) (leb (count rects) most) t))

-- rectangle k of a list has its four numbers
pub has_numbers : (n k : ℕ) → k < n / 4 → 4 * k + 4 ≤ n
has_numbers n k h = omega arith
