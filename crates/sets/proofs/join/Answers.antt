-- `sets::join` meets its contract: both roots are found, and the larger gets the smaller as its parent.
use mathlib.Core.Path.{◌≡◌, ◌∙◌}
use mathlib.Core.List.{List}
use Prim.Native.Nat.{ℕ, ◌≤◌, ◌<◌, ◌^◌}
use native.Mathlib.Nat.{le_of_lt}
use native.Mathlib.Omega.{arith}
use lib.ListN.{length}
use Rattle.sets.specs.Steps.{Parents, root, SameRoots, Found}
use Rattle.sets.proofs.Roots.{root_le, same_trans, join_roots, join_swap}
use Rattle.sets.proofs.join.Goals.{After-find-second}
use Rattle.sets.proofs.join.Goals as goal

record BothFound (n : ℕ) (p : List ℕ) (a b : ℕ) (q : List ℕ) (x y : ℕ) : Type 0 where
  same : SameRoots n p q
  a_below : a < n
  b_below : b < n
  first : x ≡ root p a
  second : y ≡ root p b
  x_below : x < n
  y_below : y < n
  room : n ≤ length q
  small : n < 2 ^ 32

both : {n : ℕ} {p : List ℕ} {a b : ℕ} {o q : List ℕ} {x y : ℕ} → Parents n p × (a < n) × (b < n) → Found n p a o x → Found n o b q y
    → BothFound n p a b q x y
both {n} {p} {a} {b} pre f g =
    let second = g.found ∙ f.same.roots b pre.2 in
    let ra : root p a ≤ a = root_le pre.0 a pre.1 in
    let rb : root p b ≤ b = root_le pre.0 b pre.2 in
    let e = f.found in
    record {
      same = same_trans f.same g.same;
      a_below = pre.1;
      b_below = pre.2;
      first = e;
      second = second;
      x_below = omega arith;
      y_below = omega arith;
      room = g.same.parents.room;
      small = g.same.parents.small;
    }

found : (c : After-find-second)
    → let start = c.args in BothFound start.n start.parents.now start.a start.b c.find-second.new.parents c.find-first.result c.find-second.result
found c = both c.requires c.find-first.ensures c.find-second.ensures

pub overflow_cast-parents : goal.overflow_cast-parents
overflow_cast-parents c = omega (arith, found (goal.at.overflow_cast-parents c).After-find-second)

pub offset_bounds-parents-second : goal.offset_bounds-parents-second
offset_bounds-parents-second c = omega (arith, found (goal.at.offset_bounds-parents-second c).After-find-second)

pub bounds-parents-second : goal.bounds-parents-second
bounds-parents-second c = omega (arith, found (goal.at.bounds-parents-second c).After-find-second)

pub overflow_cast-parents-else-first-second : goal.overflow_cast-parents-else-first-second
overflow_cast-parents-else-first-second c = omega (arith, found (goal.at.overflow_cast-parents-else-first-second c).After-find-second)

pub offset_bounds-parents-first : goal.offset_bounds-parents-first
offset_bounds-parents-first c = omega (arith, found (goal.at.offset_bounds-parents-first c).After-find-second)

pub bounds-parents-first : goal.bounds-parents-first
bounds-parents-first c = omega (arith, found (goal.at.bounds-parents-first c).After-find-second)

pub returns-then-first-second : goal.returns-then-first-second
returns-then-first-second c =
    let f = found (goal.at.returns-then-first-second c).After-find-second in
    join_roots f.same f.a_below f.b_below f.first f.second (le_of_lt c.if-first-second.true)

pub returns-else-first-second : goal.returns-else-first-second
returns-else-first-second c =
    let f = found (goal.at.returns-else-first-second c).After-find-second in
    join_swap (join_roots f.same f.b_below f.a_below f.second f.first c.if-first-second.false)
