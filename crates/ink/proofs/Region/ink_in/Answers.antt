-- `Region::ink_in` meets its contract: after j turns `n` is the ink of the first j rows.
use mathlib.Core.Path.{sym}
use Prim.Native.Nat.{◌≤◌}
use native.Mathlib.Omega.{arith}
use Rattle.ink.specs.Ink.{inked}
use Rattle.ink.proofs.Counts.{rows_none, rows_next, row_le}
use Rattle.ink.proofs.Region.ink_in.Goals.{After-row_count-n}
use Rattle.ink.proofs.Region.ink_in.Goals as goal

pub loop-j-init : goal.loop-j-init
loop-j-init c = let a = c.args in (omega arith, sym (rows_none (inked a.self.now.mask) a.self.now.rect))

-- a row has no more ink than places
row_small : (c : After-row_count-n) → c.row_count-n.result ≤ 8192
row_small c =
    let a = c.args in
    omega (arith, c.row_count-n.ensures, row_le a.self.now.mask a.self.now.rect c.loop-j.j, c.height-j-end.ensures.1.narrow, c.height-j-end.ensures.1.right, c.height-j-end.ensures.1.wide)

-- that the count fits is not found alone: a row has at most its width
pub overflow_add-n : goal.overflow_add-n
overflow_add-n c = omega (arith, row_small c, c.height-j-end.ensures.0, c.height-j-end.ensures.1.low)

pub loop-j-preserved : goal.loop-j-preserved
loop-j-preserved c =
    let a = c.args in
    (omega (arith, row_small c), rows_next (inked a.self.now.mask) a.self.now.rect c.loop-j.j c.loop-j.invariant.1 c.row_count-n.ensures)
