-- `rects::part_inside` meets its contract: whether those from the first up to k are inside.
use mathlib.Core.Path.{◌≡◌, refl, ap, ap₂, ◌∙◌}
use mathlib.Core.Bool.{Bool, true, false, ◌&&◌}
use Prim.Native.Nat.{ℕ, suc, ◌+◌, ◌-◌, ◌*◌, ◌<◌, min}
use native.Mathlib.Omega.{arith}
use lib.Dec.{leb, ltb}
use Rattle.std.proofs.lemmas.Bool.Decides.{leb_tells}
use Rattle.lists.specs.Lists.{every_below}
use Rattle.lists.proofs.Every.{every_more}
use Rattle.rects.specs.declared.Rect.{Rect}
use Rattle.rects.specs.Rects.{inside, rect_at}
use Rattle.rects.proofs.part_inside.Goals as goal

-- a number lies before n where there is a place and the number is at most the last one
before : (x n last : ℕ) → x < 4294967296 → last ≡ min (n - 1) 4294967295 → ltb 0 n && leb x last ≡ ltb x n
before x n last l e = grind (arith, leb_tells (suc 0) n, leb_tells x last, leb_tells (suc x) n, l, e)

and_yes : (a : Bool) → a ≡ a && true
and_yes true = refl
and_yes false = refl

pub loop-k-init : goal.loop-k-init
loop-k-init c = and_yes (every_below c.args.from (λ j. inside c.args.w c.args.h (rect_at c.args.rects.now j)))

-- the test as the code writes it is read as a truth value, so that a wrong one is refused whatever its form
pub loop-k-preserved : goal.loop-k-preserved
loop-k-preserved c =
    let a = c.args in
    let r = c.rect_at-r.result in
    let right = before r.x1 a.w c.last-right.result (omega (arith, ap (λ (q : Rect). q.x1) c.rect_at-r.ensures, c.type_inv.rects (4 * c.loop-k.k + 2))) c.last-right.ensures in
    let bottom = before r.y1 a.h c.last-bottom.result (omega (arith, ap (λ (q : Rect). q.y1) c.rect_at-r.ensures, c.type_inv.rects (4 * c.loop-k.k + 3))) c.last-bottom.ensures in
    let test = ap₂ (λ x y. leb r.x0 r.x1 && leb r.y0 r.y1 && x && y) right bottom ∙ ap (inside a.w a.h) c.rect_at-r.ensures in
    let more = every_more c.loop-k.k (λ j. inside a.w a.h (rect_at a.rects.now j)) in
    let so_far = c.loop-k.invariant in
    grind (arith, test, more, so_far)
