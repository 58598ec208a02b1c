-- `Region::row_has_ink` meets its contract: no place that was passed has ink.
use mathlib.Core.Path.{sym, ◌∙◌}
use Prim.Native.Nat.{◌+◌}
use native.Mathlib.Omega.{arith}
use Rattle.rects.specs.Rects.{width_of}
use Rattle.ink.specs.Ink.{inked, row_ink}
use Rattle.ink.proofs.Counts.{one_passes, none_passes}
use Rattle.ink.proofs.Region.row_has_ink.Goals as goal

pub returns-then-is_ink : goal.returns-then-is_ink
unfolding row_ink
returns-then-is_ink c =
    let s = c.self.inside in
    rw (← c.self.view_is) (one_passes (λ k. inked s.mask.now (s.rect.x0 + k) (s.rect.y0 + c.args.j)) (width_of s.rect) c.loop-i.i (omega (arith, c.loop-i-test.true, c.width-columns.ensures)) (sym c.is_ink.ensures ∙ c.if-is_ink.true))

pub returns : goal.returns
unfolding row_ink
returns c =
    let s = c.self.inside in
    let none = rw (← c.self.view_is) at c.loop-i.invariant in
    rw (← c.self.view_is) (none_passes (λ k. inked s.mask.now (s.rect.x0 + k) (s.rect.y0 + c.args.j)) (width_of s.rect) (λ k l. none k (omega (arith, l, c.loop-i-test.false, c.width-columns.ensures))))
