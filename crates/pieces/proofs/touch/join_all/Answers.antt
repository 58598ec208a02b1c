-- `touch::join_all` meets its contract: each turn tries one row more of the order, and all rows are the whole rule.
use Rattle.std.proofs.Common.{rules}
use mathlib.Core.Path.{◌≡◌}
use mathlib.Core.Logic.{inl, inr}
use mathlib.Core.List.{List}
use Prim.Native.Nat.{ℕ, ◌+◌, ◌≤◌}
use native.Mathlib.Omega.{arith}
use Rattle.lists.specs.Lists.{below, written}
use Rattle.rects.specs.Rects.{count}
use Rattle.sets.specs.Closed.{Below}
use Rattle.sets.specs.Steps.{Joins, Room}
use Rattle.sets.proofs.Sweeps.{between_begin, between_all, sweep_begin, sweep_end}
use Rattle.pieces.specs.Pieces.{Touch}
use Rattle.pieces.specs.Steps.{Sweep, SweptTo}
use Rattle.pieces.proofs.touch.join_all.Goals.{After-arrange_by}
use Rattle.pieces.proofs.touch.join_all.Goals as goal

begun : (pieces : List ℕ) (across gap : ℕ) {order p q : List ℕ} → Room (count pieces) p → q ≡ written (below (count pieces)) p → SweptTo pieces across gap order 0 1 q
begun pieces across gap R e = rw e (sweep_begin (between_begin (Below (count pieces)) (Touch pieces across gap) R (λ i l. l)))

ended : (pieces : List ℕ) (across gap : ℕ) {order keys q : List ℕ} {k : ℕ} → Sweep pieces order keys → SweptTo pieces across gap order k (k + 1) q → count pieces ≤ k
    → Joins (count pieces) (Below (count pieces)) (Touch pieces across gap) q
ended pieces across gap S B h = between_all (sweep_end B h S.sorted.stands) (λ i j di dj t. inr (inl (inr t)))

pub loop-k-init : goal.loop-k-init
loop-k-init c = begun c.args.pieces.now c.args.across c.args.gap c.requires.0 c.begin.ensures

sweep : (c : After-arrange_by) → Sweep c.args.pieces.now c.arrange_by.new.order c.arrange_by.new.keys
sweep c = record { keyed = λ i l. (let p = c.arrange_by.ensures.keyed i l in search rules); sorted = c.arrange_by.ensures.ordered }

pub join_row-requires : goal.join_row-requires
join_row-requires c =
    (c.loop-k-test.true, c.requires.1, sweep (goal.at.join_row-requires c).After-arrange_by, c.loop-k.invariant)

pub returns : goal.returns
returns c =
    (ended c.args.pieces.now c.args.across c.args.gap (sweep (goal.at.returns c).After-arrange_by) c.loop-k.invariant (omega arith), c.arrange_by.ensures.kept)
