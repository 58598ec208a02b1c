-- `lines::last_line_end` meets its contract: the last line over the limit before the one in hand is the last of all.
use mathlib.Core.Path.{◌≡◌, sym, ap, ◌∙◌}
use Prim.Native.Nat.{◌+◌, ◌-◌}
use native.Mathlib.Omega.{arith}
use Rattle.ink.specs.Steps.{lines_of}
use Rattle.ink.specs.Places.{over}
use Rattle.ink.proofs.Places.{last_found, last_passed, last_none}
use Rattle.ink_bands.proofs.Banded.{last_before}
use Rattle.ink_lines.proofs.last_line_end.Invariants.{test}
use Rattle.ink_lines.proofs.last_line_end.Goals.{After-is_over}
use Rattle.ink_lines.proofs.last_line_end.Goals as goal

-- the test of the line in hand
found : (c : After-is_over) → let a = c.args in c.is_over.result ≡ test a.r.now.mask a.r.now.rect a.lines a.limit (c.loop-k.k - 1)
found c = let a = c.args in c.is_over.ensures ∙ ap (over a.limit) c.line_count.ensures

pub returns-then-is_over : goal.returns-then-is_over
returns-then-is_over c =
    let a = c.args in
    let q = test a.r.now.mask a.r.now.rect a.lines a.limit in
    let up : c.loop-k.k - 1 + 1 ≡ c.loop-k.k = omega (arith, c.loop-k-test.true) in
    up
    ∙ sym (last_found q c.loop-k.k c.loop-k-test.true (sym (found (goal.at.returns-then-is_over c).After-is_over) ∙ c.if-is_over.true))
    ∙ c.loop-k.invariant
    ∙ last_before q (lines_of a.r.now.rect a.lines) c.passed_from_back-end.result c.passed_from_back-end.ensures.0 c.passed_from_back-end.ensures.1

pub loop-k-preserved : goal.loop-k-preserved
loop-k-preserved c =
    let a = c.args in
    let q = test a.r.now.mask a.r.now.rect a.lines a.limit in
    sym (last_passed q c.loop-k.k c.loop-k-test.true (sym (found (goal.at.loop-k-preserved c).After-is_over) ∙ c.if-is_over.false)) ∙ c.loop-k.invariant

pub returns : goal.returns
returns c =
    let a = c.args in
    let q = test a.r.now.mask a.r.now.rect a.lines a.limit in
    sym (last_none q c.loop-k.k c.loop-k-test.false) ∙ c.loop-k.invariant ∙ last_before q (lines_of a.r.now.rect a.lines) c.passed_from_back-end.result c.passed_from_back-end.ensures.0 c.passed_from_back-end.ensures.1
