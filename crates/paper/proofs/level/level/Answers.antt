-- `paper::level::level` meets its contract: `at_least` is the number of samples of at least v, and fewer than half are larger.
use mathlib.Core.Path.{refl}
use Prim.Native.Nat.{ℕ, ◌+◌, ◌-◌, ◌≤◌, ◌<◌}
use native.Mathlib.Nat.{sub-add_cancel}
use native.Mathlib.Omega.{arith}
use mathlib.Core.List.{List}
use mathlib.Core.Logic.{inl, inr}
use lib.ListN.{get_or}
use Rattle.paper.proofs.Levels.{brightest, above_zero, next_down, level_is}
use Rattle.paper.proofs.level.level.Invariants.{Down}
use Rattle.paper.proofs.level.level.Goals.{In-loop-at_least}
use Rattle.paper.proofs.level.level.Goals as goal

-- half of them are at least 0
positive : (c : In-loop-at_least) → 1 ≤ c.loop-at_least.v
positive c =
    let s = c.requires.2 in
    let d = c.loop-at_least.invariant.1 s.0 s.1 s.2 in
    above_zero s.0 c.args.counts.now s.2 c.loop-at_least.v (rw s.1 (rw (← d.0) c.loop-at_least-test.true))

next : (counts : List ℕ) (n half v at_least : ℕ) → 1 ≤ v → v ≤ 255 → at_least < half → Down counts n half v at_least → Down counts n half (v - 1) (at_least + get_or counts (v - 1) 0)
next counts n half v at_least p l few down xs e t =
    let d = down xs e t in
    (rw d.0 (next_down xs counts t v p l), inr (rw (sub-add_cancel p) (rw (← d.0) few)))

pub loop-at_least-init : goal.loop-at_least-init
loop-at_least-init c = (omega arith, λ xs e t. (brightest xs c.args.counts.now t, inl refl))

-- that v is not below 1 is not found alone: all samples are at least 0
pub overflow_sub-v : goal.overflow_sub-v
overflow_sub-v c = positive c

-- that the loop ends is not found alone, for the same reason
pub loop-at_least-smaller : goal.loop-at_least-smaller
loop-at_least-smaller c = omega (arith, positive (goal.at.loop-at_least-smaller c).In-loop-at_least)

pub loop-at_least-preserved : goal.loop-at_least-preserved
loop-at_least-preserved c =
    let v = c.loop-at_least.v in
    let counts = c.args.counts.now in
    let p = positive (goal.at.loop-at_least-preserved c).In-loop-at_least in
    rw c.from.ensures
    (omega arith, λ xs e t. next counts _ _ v _ p c.loop-at_least.invariant.0 c.loop-at_least-test.true c.loop-at_least.invariant.1 xs e t)

pub returns : goal.returns
returns c =
    λ xs e t.
    let s = c.loop-at_least.invariant.1 xs e t in
    level_is xs c.args.counts.now t c.loop-at_least.v (rw e (rw (← s.0) c.loop-at_least-test.false)) (rw e s.1)
