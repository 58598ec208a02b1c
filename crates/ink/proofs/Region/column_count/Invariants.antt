-- `Region::column_count` meets its contract: after j turns `n` is the ink of the first j places of the column.
use mathlib.Core.Path.{◌≡◌}
use Prim.Native.Nat.{◌+◌}
use Rattle.ink.specs.Ink.{inked, many}
use Rattle.ink.proofs.Region.column_count.Given as goal

abbrev pub invariant-loop-j : goal.invariant-loop-j
invariant-loop-j l = l.n ≡ many (λ k. inked l.self.mask l.x (l.y + k)) l.j
