-- `lines::first_line` meets its contract: the first line over the limit from the one in hand on is the first of all.
use mathlib.Core.Path.{◌≡◌, sym, ap, ◌∙◌}
use Prim.Native.Nat.{◌≤◌}
use native.Mathlib.Omega.{arith}
use Rattle.ink.specs.Ink.{Region}
use Rattle.ink.specs.Steps.{lines_of}
use Rattle.ink.specs.Places.{over, first_place}
use Rattle.ink.proofs.Places.{first_found, first_passed, first_none}
use Rattle.ink_bands.proofs.Banded.{first_past}
use Rattle.ink_lines.proofs.first_line.Invariants.{test}
use Rattle.ink_lines.proofs.first_line.Goals.{After-lines_of-n, After-is_over}
use Rattle.ink_lines.proofs.first_line.Goals as goal

number : (c : After-lines_of-n) → c.lines_of-n.result ≡ lines_of c.args.r.now.rect c.args.lines
number c = c.lines_of-n.ensures ∙ ap (λ (s : Region). lines_of s.rect c.args.lines) c.r.view_is

pub loop-k-init : goal.loop-k-init
loop-k-init c =
    let a = c.args in
    let few : c.passed_from_front-passed.result ≤ c.lines_of-n.result = omega (arith, c.passed_from_front-passed.ensures.0, number (goal.at.loop-k-init c).After-lines_of-n) in
    first_past (test a.r.now.mask a.r.now.rect a.lines a.limit) c.lines_of-n.result c.passed_from_front-passed.result few c.passed_from_front-passed.ensures.1

-- the test of the line in hand
found : (c : After-is_over) → let a = c.args in c.is_over.result ≡ test a.r.now.mask a.r.now.rect a.lines a.limit c.loop-k.k
found c = let a = c.args in c.is_over.ensures ∙ ap (over a.limit) c.line_count.ensures

pub returns-then-is_over : goal.returns-then-is_over
returns-then-is_over c =
    let a = c.args in
    let q = test a.r.now.mask a.r.now.rect a.lines a.limit in
    sym (first_found q c.lines_of-n.result c.loop-k.k c.loop-k-test.true (sym (found (goal.at.returns-then-is_over c).After-is_over) ∙ c.if-is_over.true)) ∙ c.loop-k.invariant ∙ ap (first_place q) (number (goal.at.returns-then-is_over c).After-lines_of-n)

pub loop-k-preserved : goal.loop-k-preserved
loop-k-preserved c =
    let a = c.args in
    let q = test a.r.now.mask a.r.now.rect a.lines a.limit in
    sym (first_passed q c.lines_of-n.result c.loop-k.k c.loop-k-test.true (sym (found (goal.at.loop-k-preserved c).After-is_over) ∙ c.if-is_over.false)) ∙ c.loop-k.invariant

pub returns : goal.returns
returns c =
    let a = c.args in
    let q = test a.r.now.mask a.r.now.rect a.lines a.limit in
    let n = c.lines_of-n.result in
    let as_many = number (goal.at.returns c).After-lines_of-n in
    let end : c.loop-k.k ≡ n = omega (arith, c.passed_from_front-passed.ensures.0, as_many) in
    sym (first_none q n n (omega arith)) ∙ rw end at c.loop-k.invariant ∙ ap (first_place q) as_many
