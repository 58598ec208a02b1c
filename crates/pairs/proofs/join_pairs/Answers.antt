-- `pairs::join_pairs` meets its contract: each turn joins one pair more, and all pairs are the whole rule.

use mathlib.Core.Bool.{false≢true}
use Prim.Native.Nat.{ℕ, ◌+◌, ◌*◌, ◌/◌, ◌<◌}
use native.Mathlib.Omega.{arith}
use lib.ListN.{length}
use Rattle.sets.specs.Closed.{Below}
use Rattle.sets.proofs.Joins.{joins_none}
use Rattle.pairs.specs.Pairs.{Paired}
use Rattle.pairs.proofs.Rule.{pair_joined}
use Rattle.pairs.proofs.join_pairs.Goals as goal

-- the numbers of pair k stand in the list
first : (l k : ℕ) → k < l / 2 → 2 * k < l
first l k h = omega arith

second : (l k : ℕ) → k < l / 2 → 2 * k + 1 < l
second l k h = omega arith

pub loop-k-init : goal.loop-k-init
loop-k-init c =
    rw c.begin.ensures (joins_none c.requires.0 (Below c.args.n) (λ i l. l) (Paired c.args.pairs.now 0) (λ i j di dj h. false≢true h))

pub loop-k-preserved : goal.loop-k-preserved
loop-k-preserved c =
    let pairs = c.args.pairs.now in
    let k = c.loop-k.k in
    let h = c.loop-k-test.true in
    pair_joined pairs k (c.requires.1 (2 * k) (first (length pairs) k h)) (c.requires.1 (2 * k + 1) (second (length pairs) k h)) c.loop-k.invariant c.join.ensures
