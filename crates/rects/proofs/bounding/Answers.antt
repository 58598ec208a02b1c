-- `rects::bounding` meets its contract. The invariant: r, with the rectangles at the places that are left, makes the whole.
use mathlib.Core.Path.{◌≡◌, sym, ap, ◌∙◌}
use mathlib.Core.List.{List}
use Prim.Native.Nat.{ℕ, ◌+◌, ◌-◌, ◌<◌}
use native.Mathlib.Omega.{arith}
use lib.ListN.{length, get_or, take, drop}
use Rattle.std.proofs.lemmas.List.{take_rest, get_or-drop, length-take, length-drop}
use Rattle.lists.specs.Lists.{In}
use Rattle.lists.proofs.Keep.{at_in}
use Rattle.rects.specs.declared.Rect.{Rect}
use Rattle.rects.specs.Around.{union_of, unioned}
use Rattle.rects.proofs.Around.{around_first, unioned_step, unioned_all}
use Rattle.rects.proofs.bounding.Goals as goal

-- the places after the first, and one of them
rest : (places : List ℕ) → take (length places - 1) (drop 1 places) ≡ drop 1 places
rest places = take_rest places 1

rest_at : (places : List ℕ) (k : ℕ) → k < length (take (length places - 1) (drop 1 places)) → In places (get_or (take (length places - 1) (drop 1 places)) k 0)
rest_at places k h =
    let l : 1 + k < length places = omega (arith, h, length-take (length places - 1) (drop 1 places), length-drop 1 places) in
    rw (rest places, get_or-drop 1 places k 0) (at_in places (1 + k) l)

pub rect_at-r-requires : goal.rect_at-r-requires
rect_at-r-requires c = c.requires.1 (get_or c.args.places.now 0 0) (at_in c.args.places.now 0 c.requires.0)

pub loop-place-init : goal.loop-place-init
loop-place-init c =
    let rects = c.args.rects.now in
    let places = c.args.places.now in
    rw (rest places) (ap (λ (r : Rect). unioned rects r (drop 1 places)) c.rect_at-r.ensures ∙ sym (around_first rects places c.requires.0))

pub rect_at-requires : goal.rect_at-requires
rect_at-requires c = c.requires.1 _ (rest_at _ _ c.loop-place-test.true)

pub loop-place-preserved : goal.loop-place-preserved
loop-place-preserved c =
    let rects = c.args.rects.now in
    let places = c.args.places.now in
    let left = take (length places - 1) (drop 1 places) in
    let i = c.loop-place.place-index in
    ap (λ (r : Rect). unioned rects r (drop (i + 1) left)) (c.union_rect-r.ensures ∙ ap (union_of c.loop-place.r) c.rect_at.ensures)
    ∙ unioned_step rects c.loop-place.r left i c.loop-place-test.true
    ∙ c.loop-place.invariant

pub returns : goal.returns
returns c = sym (unioned_all _ _ _ _ c.loop-place-test.false) ∙ c.loop-place.invariant
