-- `read::count_ink` meets its contract: after i turns `n` is how many of the first i bytes are ink.
use mathlib.Core.Bool.{not}
use Prim.Native.Nat.{◌≤◌}
use native.Mathlib.Omega.{arith}
use lib.Dec.{eqb}
use lib.ListN.{get_or}
use Rattle.ink.proofs.Counts.{many_le, one_le}
use Rattle.ink.proofs.read.count_ink.Goals.{At-loop-b}
use Rattle.ink.proofs.read.count_ink.Goals as goal

inked-le : (c : At-loop-b) → c.loop-b.n ≤ c.loop-b.b-index
inked-le c = rw c.loop-b.invariant (many_le (λ k. not (eqb (get_or c.args.row.now k 0) 0)) c.loop-b.b-index)

-- that the count fits is not found alone: it is at most the bytes before
pub overflow_add-n : goal.overflow_add-n
overflow_add-n c = omega (arith, one_le _ c.from-n.ensures, inked-le (goal.at.overflow_add-n c).At-loop-b)
