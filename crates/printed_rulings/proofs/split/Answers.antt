-- `printed_rulings::split` meets its contract: after k turns the printed and the faint ones of the first k rulings are listed.
use mathlib.Core.Path.{◌≡◌}
use mathlib.Core.List.{List}
use Prim.Native.Nat.{ℕ}
use native.Mathlib.Omega.{arith}
use lib.Ieee.{Float}
use Rattle.params.specs.declared.settings.RulingsParams.{RulingsParams}
use Rattle.printed_rulings.proofs.split.Invariants.{Progress, low_dark, low_pale, on_dark, on_pale}
use Rattle.printed_rulings.proofs.split.Goals.{then-is_printed, else-is_printed}
use Rattle.printed_rulings.proofs.split.Goals as goal

-- where the two ways meet, lists and counts are what the way left
moved : {p : RulingsParams} {cs : List Float} {ps fs ps' ps'' fs' fs'' : List ℕ} {a a' b b' k : ℕ} → Progress p cs ps fs ps' fs' a b k
    → ps'' ≡ ps' → fs'' ≡ fs' → a' ≡ a → b' ≡ b → Progress p cs ps fs ps'' fs'' a' b' k
moved P x y u v = rw (x, y, u, v) P

pub bounds-printed-dark : goal.bounds-printed-dark
bounds-printed-dark c =
    let P = c.loop-k.invariant in
    omega (arith, c.loop-k-test.true, c.requires.printed, P.dark.long, low_dark c.args.p c.args.contrasts.now P)

pub bounds-faint-pale : goal.bounds-faint-pale
bounds-faint-pale c =
    let P = c.loop-k.invariant in
    omega (arith, c.loop-k-test.true, c.requires.faint, P.pale.long, low_pale c.args.p c.args.contrasts.now P)

pub loop-k-preserved : goal.loop-k-preserved
loop-k-preserved c =
    let P = c.loop-k.invariant in
    let l = c.loop-k-test.true in
    let e = c.is_printed.ensures in
    elim c.if-is_printed.branch [
      | then-is_printed w ↦ moved (on_dark c.args.p c.args.contrasts.now P l c.requires.printed e w.if-is_printed.true) w.printed-is w.faint-is w.dark-is w.pale-is
      | else-is_printed w ↦ moved (on_pale c.args.p c.args.contrasts.now P l c.requires.faint e w.if-is_printed.false) w.printed-is w.faint-is w.dark-is w.pale-is
    ]
