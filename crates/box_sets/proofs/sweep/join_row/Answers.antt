-- `sweep::join_row` meets its contract: each turn tries one pair more, and where it stops early nothing behind is near, or one of the same
-- width was tried, past which no pair is asked for. As long as every pair was found in one set, all places that were tried are one set.
use Rattle.std.proofs.lemmas.Grind.{common_steps}
use mathlib.Core.Path.{◌≡◌, refl, sym, ap, ◌∙◌}
use mathlib.Core.Bool.{Bool, true, false, cond, ◌&&◌}
use mathlib.Core.List.{List}
use Prim.Native.Nat.{ℕ, ◌+◌, ◌≤◌, ◌<◌, max}
use native.Mathlib.Omega.{arith}
use lib.ListN.{get_or}
use Rattle.lists.proofs.Every.{and_first, and_second}
use Rattle.rects.specs.Rects.{count}
use Rattle.sets.specs.Steps.{root, Joined}
use Rattle.box_widths.specs.Widths.{similar}
use Rattle.box_sets.specs.Steps.{Sweep, width_at, SweptTo, RowDone}
use Rattle.box_sets.proofs.Rows.{Head, one_set_next, one_set_more, pair_tried, row_meets_width, row_ends}
use Rattle.box_sets.proofs.sweep.join_row.Invariants.{Row}
use Rattle.box_sets.proofs.sweep.join_row.Goals as goal

module _ {rects : List ℕ} {limit : ℕ} {order keys : List ℕ} {k width last : ℕ} (S : Sweep rects limit order keys) (first : k < count rects)
    (H : Head rects limit keys (get_or order k 0) width last) where
  turn : {p q q' : List ℕ} {whole r : Bool} {l other : ℕ} → Row rects limit order keys p k (count rects) q whole l → l < count rects
      → get_or keys (get_or order l 0) 0 ≤ last → other ≡ width_at rects order l
      → Joined (count rects) q (get_or order k 0) (get_or order l 0) (similar width other) q'
      × (r ≡ true → root q' (get_or order k 0) ≡ root q' (get_or order l 0))
      → Row rects limit order keys p k (count rects) q' (r && whole) (l + 1)
  turn {whole = whole} {r} W h near e J =
      record {
        later = omega (arith, W.later);
        swept = pair_tried S first H W.swept W.later h near (rw e at J.0);
        one = λ f. one_set_more S.sorted.known W.later h (W.one (and_second r whole f)) J.0 (J.1 (and_first r whole f));
      }

finished : {rects : List ℕ} {limit : ℕ} {order keys p : List ℕ} {k : ℕ} {q : List ℕ} {whole : Bool} {l r : ℕ} → Row rects limit order keys p k (count rects) q whole l
    → l ≤ count rects → SweptTo rects limit order keys p (k + 1) (k + 2) q → r ≡ cond whole l 0 → RowDone rects limit order keys p k q r
finished {whole = true} W u B e = record { swept = B; up_to = omega arith; one = rw e (one_set_next (W.one refl)) }
finished {whole = false} W u B e = record { swept = B; up_to = omega arith; one = record { same = λ b h m. absurd (omega arith) } }

pub returns-then-other-width : goal.returns-then-other-width
returns-then-other-width c =
    let pre = c.requires in
    let T = turn pre.2 pre.3 (record { wide = c.size_at-width.ensures; reaches = refl }) c.loop-l.invariant c.loop-l-test.true c.if-last-keys.false c.size_at-other.ensures c.join_similar-whole.ensures in
    finished T (omega arith) (row_meets_width pre.2 pre.3 (record { wide = c.size_at-width.ensures; reaches = refl }) T.swept c.loop-l.invariant.later (sym c.size_at-other.ensures ∙ c.if-other-width.true)) c.known_to-then-other-width.ensures

pub loop-l-preserved : goal.loop-l-preserved
loop-l-preserved c =
    let pre = c.requires in
    turn pre.2 pre.3 (record { wide = c.size_at-width.ensures; reaches = refl }) c.loop-l.invariant c.loop-l-test.true c.if-last-keys.false c.size_at-other.ensures c.join_similar-whole.ensures

pub returns : goal.returns
returns c =
    let pre = c.requires in
    let n = count c.args.rects.now in
    let start : c.max-l.result ≡ max c.args.from (c.args.k + 1) = grind (arith, common_steps) in
    let end : c.loop-l.l ≡ n = omega (arith, start, pre.3, pre.5) in
    finished c.loop-l.invariant (omega (arith, end)) (row_ends pre.2 pre.3 (record { wide = c.size_at-width.ensures; reaches = refl }) c.loop-l.invariant.swept c.loop-l-test.false)
    (c.known_to-2.ensures ∙ ap (λ (m : ℕ). cond c.loop-l.whole m 0) (sym end))
