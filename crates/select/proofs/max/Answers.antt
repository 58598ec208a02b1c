-- `select::max` meets its contract: each way out is the case of the definition that its tests name.
use mathlib.Core.Path.{sym, ◌∙◌}
use Rattle.math.proofs.Tests.{nan_test}
use Rattle.select.proofs.max.Goals as goal

pub is_negative-requires : goal.is_negative-requires
is_negative-requires c = sym (nan_test c.args.x) ∙ c.if-x.false

pub returns-then-x : goal.returns-then-x
returns-then-x c = simp (sym (nan_test c.args.x) ∙ c.if-x.true)

pub returns-then-y : goal.returns-then-y
returns-then-y c = simp (sym (nan_test c.args.x) ∙ c.if-x.false, sym (nan_test c.args.y) ∙ c.if-y.true)

pub returns-then-x-y : goal.returns-then-x-y
returns-then-x-y c = let a = c.args in simp (sym (nan_test a.x) ∙ c.if-x.false, sym (nan_test a.y) ∙ c.if-y.false, c.if-x-y.true)

pub returns-then-y-x : goal.returns-then-y-x
returns-then-y-x c = let a = c.args in simp (sym (nan_test a.x) ∙ c.if-x.false, sym (nan_test a.y) ∙ c.if-y.false, c.if-x-y.false, c.if-y-x.true)

pub returns-then-is_negative : goal.returns-then-is_negative
returns-then-is_negative c =
    let a = c.args in
    simp (sym (nan_test a.x) ∙ c.if-x.false, sym (nan_test a.y) ∙ c.if-y.false, c.if-x-y.false, c.if-y-x.false, sym c.is_negative.ensures ∙ c.if-is_negative.true)

pub returns-else-is_negative : goal.returns-else-is_negative
returns-else-is_negative c =
    let a = c.args in
    simp (sym (nan_test a.x) ∙ c.if-x.false, sym (nan_test a.y) ∙ c.if-y.false, c.if-x-y.false, c.if-y-x.false, sym c.is_negative.ensures ∙ c.if-is_negative.false)
