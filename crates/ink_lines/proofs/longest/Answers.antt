-- `lines::longest` meets its contract: `run` is the run that ends at the line in hand, `best` the longest before it.
use mathlib.Core.Path.{◌≡◌, sym, ap, ◌∙◌}
use mathlib.Core.Bool.{Bool, cond}
use Prim.Native.Nat.{suc, max}
use Rattle.std.proofs.lemmas.Grind.{common_steps}
use native.Mathlib.Omega.{arith}
use Rattle.ink.proofs.Counts.{lines_le}
use Rattle.ink.proofs.Runs.{run_none, longest_none, run_le, run_next, longest_next}
use Rattle.ink_lines.proofs.longest.Invariants.{test}
use Rattle.ink_lines.proofs.longest.Goals as goal

pub loop-k-init : goal.loop-k-init
loop-k-init c =
    let a = c.args in
    let q = test a.r.now.mask a.r.now.rect a.lines in
    (sym (run_none q), sym (longest_none q))

pub longer_run-run-requires : goal.longer_run-run-requires
longer_run-run-requires c =
    let a = c.args in
    omega (arith, c.loop-k.invariant.0, run_le (test a.r.now.mask a.r.now.rect a.lines) c.loop-k.k, c.loop-k-test.true, c.lines_of-k-end.ensures, lines_le c.r.inside.mask.now c.r.inside.rect c.r.invariant a.lines)

pub loop-k-preserved : goal.loop-k-preserved
loop-k-preserved c =
    let a = c.args in
    let q = test a.r.now.mask a.r.now.rect a.lines in
    let k = c.loop-k.k in
    let r = run_next q k c.loop-k.invariant.0 (c.longer_run-run.ensures ∙ ap (λ (b : Bool). cond b (suc c.loop-k.run) 0) c.line_has_ink.ensures) in
    let most : c.max-best.result ≡ max c.loop-k.best c.longer_run-run.result = grind (arith, common_steps) in
    (r, longest_next q k c.loop-k.invariant.1 r most)
