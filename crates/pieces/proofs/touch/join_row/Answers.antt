-- `touch::join_row` meets its contract: each turn tries one pair more, and where it stops early nothing behind can touch.
use mathlib.Core.Path.{◌≡◌, ap, ◌∙◌}
use mathlib.Core.Bool.{Bool}
use Prim.Native.Nat.{ℕ, ◌^◌, ◌<◌}
use native.Mathlib.Omega.{arith}
use Rattle.rects.specs.declared.Rect.{Rect}
use Rattle.pieces.specs.Pieces.{horizontal}
use Rattle.pieces.specs.Steps.{centre_in, end_in, last_key}
use Rattle.pieces.proofs.Rows.{Head, pair_tried, row_stops, row_ends}
use Rattle.pieces.proofs.touch.join_row.Goals as goal

head : {gap : ℕ} {a r : Rect} {h : Bool} {centre last : ℕ} → a ≡ r → h ≡ horizontal a → centre ≡ centre_in h a → (last ≡ last_key gap h a) × (end_in h a < 2 ^ 32) → gap < 2 ^ 32
    → Head gap r h centre last
head {gap} {h = h} e d f l g =
    record { direction = d ∙ ap horizontal e; centred = f ∙ ap (centre_in h) e; reaches = l.0 ∙ ap (last_key gap h) e; ends = rw e at l.1; narrow = g }

pub returns-then-last-keys : goal.returns-then-last-keys
returns-then-last-keys c =
    let a = c.args in
    let pre = c.requires in
    row_stops a.pieces.now a.across a.gap pre.1 pre.2 pre.0 (head c.rect_at-a.ensures c.is_horizontal-horizontal.ensures c.centre2-centre.ensures.0 c.last_key-last.ensures c.ranges.gap.fits)
    c.loop-l.invariant c.loop-l-test.true c.if-last-keys.true

pub loop-l-preserved : goal.loop-l-preserved
loop-l-preserved c =
    let a = c.args in
    let pre = c.requires in
    pair_tried a.pieces.now a.across a.gap pre.1 pre.2 pre.0
    (head c.rect_at-a.ensures c.is_horizontal-horizontal.ensures c.centre2-centre.ensures.0 c.last_key-last.ensures c.ranges.gap.fits) c.loop-l.invariant (omega arith) c.loop-l-test.true c.if-last-keys.false (rw c.from-reach.ensures at c.join_near.ensures)

pub returns : goal.returns
returns c =
    let a = c.args in
    let pre = c.requires in
    row_ends a.pieces.now a.across a.gap pre.1 pre.2 pre.0 (head c.rect_at-a.ensures c.is_horizontal-horizontal.ensures c.centre2-centre.ensures.0 c.last_key-last.ensures c.ranges.gap.fits)
    c.loop-l.invariant c.loop-l-test.false
