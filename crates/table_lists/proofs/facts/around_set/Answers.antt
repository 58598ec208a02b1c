-- `facts::around_set` meets its contract. The invariant: r, with the rectangles of the members that are left, makes the whole.
use mathlib.Core.Path.{◌≡◌, sym, ap, ◌∙◌}
use mathlib.Core.List.{List}
use Prim.Native.Nat.{ℕ, ◌+◌, ◌-◌, ◌≤◌, ◌<◌}
use native.Mathlib.Omega.{arith}
use lib.ListN.{length, get_or, take, drop, length-map}
use Rattle.std.proofs.lemmas.List.{get_or-take, get_or-drop, length-take, length-drop}
use Rattle.lists.proofs.Keep.{get_d_map}
use Rattle.rects.specs.declared.Rect.{Rect}
use Rattle.rects.specs.Rects.{rect_at}
use Rattle.rects.specs.Around.{union_of, unioned, around}
use Rattle.rects.proofs.Around.{around_first, unioned_step, unioned_all}
use Rattle.table_lists.specs.Answers.{places_of}
use Rattle.meeting.proofs.Rulings.{member_within}
use Rattle.table_lists.proofs.facts.around_set.Goals.{In-loop-i}
use Rattle.table_lists.proofs.facts.around_set.Goals as goal

module _ (rects chosen set : List ℕ) where
  abbrev places : List ℕ
  places = places_of chosen set

  place_at : (k : ℕ) → k < length set → get_or places k 0 ≡ get_or chosen (get_or set k 0) 0
  place_at k h = get_d_map (λ i. get_or chosen i 0) set k 0 h

  size : length places ≡ length set
  size = length-map set (λ i. get_or chosen i 0)

  -- the members behind the first, as a slice
  abbrev rest : List ℕ
  rest = take (length set - 1) (drop 1 set)

  rest_long : length rest ≡ length set - 1
  rest_long = omega (arith, length-take (length set - 1) (drop 1 set), length-drop 1 set)

  rest_at : (i : ℕ) → i < length rest → get_or rest i 0 ≡ get_or set (i + 1) 0
  rest_at i l =
      let e : 1 + i ≡ i + 1 = omega arith in
      get_or-take (length set - 1) (drop 1 set) i 0 (rw rest_long at l) ∙ get_or-drop 1 set i 0 ∙ ap (λ (k : ℕ). get_or set k 0) e

  begun : {r : Rect} → 0 < length set → r ≡ rect_at rects (get_or chosen (get_or set 0 0) 0) → unioned rects r (drop 1 places) ≡ around rects places
  begun h e =
      ap (λ (r : Rect). unioned rects r (drop 1 places)) (e ∙ ap (rect_at rects) (sym (place_at 0 h))) ∙ sym (around_first rects places (rw size h))

  turn : (r : Rect) {r' x : Rect} {k : ℕ} → unioned rects r (drop k places) ≡ around rects places → k < length set → x ≡ rect_at rects (get_or chosen (get_or set k 0) 0)
      → r' ≡ union_of r x → unioned rects r' (drop (k + 1) places) ≡ around rects places
  turn r {k = k} W h ex er =
      ap (λ (u : Rect). unioned rects u (drop (k + 1) places)) (er ∙ ap (union_of r) (ex ∙ ap (rect_at rects) (sym (place_at k h))))
      ∙ unioned_step rects r places k (rw size h) ∙ W

  done : {r : Rect} {k : ℕ} → unioned rects r (drop k places) ≡ around rects places → length set ≤ k → r ≡ around rects places
  done {r} {k} W h = sym (unioned_all rects r places k (rw size h)) ∙ W

pub rect_at-r-requires : goal.rect_at-r-requires
rect_at-r-requires c = member_within c.args.set.now c.requires.0 0 c.requires.1

-- the member that is read, and that it is one of the chosen
member : (c : In-loop-i) → get_or (rest c.args.rulings.now.rects c.args.rulings.now.chosen c.args.set.now) c.loop-i.i-index 0 ≡ get_or c.args.set.now (c.loop-i.i-index + 1) 0
member c = rest_at c.args.rulings.now.rects c.args.rulings.now.chosen c.args.set.now c.loop-i.i-index c.loop-i-test.true

inside : (c : In-loop-i) → c.loop-i.i-index + 1 < length c.args.set.now
inside c = omega (arith, rest_long c.args.rulings.now.rects c.args.rulings.now.chosen c.args.set.now)

known : (c : In-loop-i) → get_or (rest c.args.rulings.now.rects c.args.rulings.now.chosen c.args.set.now) c.loop-i.i-index 0 < length c.args.rulings.now.chosen
known c = rw (member c) (member_within c.args.set.now c.requires.0 (c.loop-i.i-index + 1) (inside c))

pub loop-i-init : goal.loop-i-init
loop-i-init c = begun c.args.rulings.now.rects c.args.rulings.now.chosen c.args.set.now c.requires.1 c.rect_at-r.ensures.0

pub rect_at-requires : goal.rect_at-requires
rect_at-requires c = known (goal.at.rect_at-requires c).In-loop-i

pub loop-i-preserved : goal.loop-i-preserved
loop-i-preserved c =
    let a = c.args in
    let here = (goal.at.loop-i-preserved c).In-loop-i in
    turn a.rulings.now.rects a.rulings.now.chosen a.set.now c.loop-i.r c.loop-i.invariant (inside here)
    (c.rect_at.ensures.0 ∙ ap (λ (m : ℕ). rect_at a.rulings.now.rects (get_or a.rulings.now.chosen m 0)) (member here)) c.union_rect-r.ensures

pub returns : goal.returns
returns c =
    let a = c.args in
    done a.rulings.now.rects a.rulings.now.chosen a.set.now c.loop-i.invariant (omega (arith, rest_long a.rulings.now.rects a.rulings.now.chosen a.set.now))
