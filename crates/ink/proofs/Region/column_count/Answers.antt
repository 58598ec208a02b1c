-- `Region::column_count` meets its contract: after j turns `n` is the ink of the first j places of the column.
use mathlib.Core.Path.{◌≡◌, ap, ◌∙◌}
use Prim.Native.Nat.{ℕ, ◌+◌, ◌≤◌}
use native.Mathlib.Omega.{arith}
use Rattle.rects.specs.Rects.{height_of}
use Rattle.ink.specs.Ink.{inked, many, column_ink}
use Rattle.ink.proofs.Counts.{many_le, one_le}
use Rattle.ink.proofs.Region.column_count.Goals.{At-loop-j}
use Rattle.ink.proofs.Region.column_count.Goals as goal

counted : (c : At-loop-j) → c.loop-j.n ≤ c.loop-j.j
counted c = rw c.loop-j.invariant (many_le _ c.loop-j.j)

-- that the count fits is not found alone: it is at most the places before
pub overflow_add-n : goal.overflow_add-n
overflow_add-n c = omega (arith, one_le c.is_ink.result c.from-n.ensures, counted (goal.at.overflow_add-n c).At-loop-j, c.self.invariant.low, c.height-rows.ensures)

pub returns : goal.returns
unfolding column_ink
returns c =
    let s = c.self.inside in
    let end : c.loop-j.j ≡ height_of s.rect = omega (arith, c.height-rows.ensures) in
    let counted = rw (← c.self.view_is) at c.loop-j.invariant in
    rw (← c.self.view_is) (counted ∙ ap (λ (k : ℕ). many (λ k. inked s.mask.now (s.rect.x0 + c.args.i) (s.rect.y0 + k)) k) end)
