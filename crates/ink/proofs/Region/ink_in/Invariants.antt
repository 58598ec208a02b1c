-- `Region::ink_in` meets its contract: after j turns `n` is the ink of the first j rows.
use mathlib.Core.Path.{◌≡◌}
use Prim.Native.Nat.{◌*◌, ◌≤◌}
use Rattle.ink.specs.Ink.{inked, ink_in_rows}
use Rattle.ink.proofs.Region.ink_in.Given as goal

abbrev pub invariant-loop-j : goal.invariant-loop-j
invariant-loop-j l = (l.n ≤ 8192 * l.j) × (l.n ≡ ink_in_rows (inked l.self.mask) l.self.rect l.j)
