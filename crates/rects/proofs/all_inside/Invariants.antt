-- `rects::all_inside` meets its contract: every rectangle below k is inside.
use mathlib.Core.Path.{◌≡◌}
use mathlib.Core.Bool.{true}
use Prim.Native.Nat.{◌-◌, ◌≤◌}
use Rattle.lists.specs.Lists.{every_below}
use Rattle.rects.specs.Rects.{inside, rect_at}
use Rattle.rects.proofs.all_inside.Given as goal

abbrev pub invariant-loop-k : goal.invariant-loop-k
invariant-loop-k l = (l.k ≤ l.n) × (every_below l.k (λ j. inside l.w l.h (rect_at l.rects j)) ≡ true)

abbrev pub decreases-loop-k : goal.decreases-loop-k
decreases-loop-k l = l.n - l.k
