-- `Region::column_has_ink` meets its contract: some place of the column has ink where their number is not 0.
use mathlib.Core.Path.{◌∙◌, refl}
use mathlib.Core.Bool.{Bool}
use Prim.Native.Nat.{ℕ, ◌+◌, ◌*◌, ◌<◌}
use native.Mathlib.Omega.{arith}
use borrow.Author.Rules.{rules}
use lib.ListN.{length}
use Rattle.std.proofs.lemmas.Iterator.{YieldsList-from_range, serves_from_Range}
use Rattle.std.proofs.lemmas.Iterator.Search.{any_from_yields_List}
use Rattle.ink.specs.Ink.{inked, column_ink}
use Rattle.ink.proofs.Counts.{row_in_mask, some_in_range}
use Rattle.ink.proofs.Region.column_has_ink.Goals as goal

pub any-requires-clause-callable : goal.any-requires-clause-callable
any-requires-clause-callable c =
    let s = c.self.inside in
    let m = s.mask.now in
    let here = rw (← c.self.view_is) at c.requires in
    serves_from_Range (λ x q r. search rules)
    (λ x low high.
    let inside : (s.rect.y0 + x) * m.w + (s.rect.x0 + c.args.i) < length m.bytes = omega (arith, row_in_mask m s.rect c.self.invariant x (omega (arith, c.height-rows.ensures, high)), here, c.self.invariant.wide) in
    search rules)

pub returns : goal.returns
unfolding column_ink
returns c =
    let s = c.self.inside in
    let q : ℕ → Bool = λ k. inked s.mask.now (s.rect.x0 + c.args.i) (s.rect.y0 + k) in
    rw (← c.self.view_is, ← c.height-rows.ensures)
    (any_from_yields_List q _ _ c.any.result c.any.ensures.ran (YieldsList-from_range 0 c.height-rows.result c.height-rows.result refl (omega arith)) (λ x b f k. (search rules, search rules))
    ∙ some_in_range q c.height-rows.result)
