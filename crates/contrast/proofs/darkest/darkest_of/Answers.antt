-- `contrast::darkest::darkest_of` meets its contract: `least` is the darkest of the pixels before the next.
use mathlib.Core.Path.{◌≡◌, refl, ap, ◌∙◌}
use Prim.Native.Nat.{ℕ, ◌+◌, min}
use native.Mathlib.Omega.{arith}
use native.Mathlib.Numerals.{add-one}
use lib.ListN.{get_or, take}
use lib.Seq.{take-suc}
use Rattle.paper.specs.Pixels.{darkest_of}
use Rattle.contrast.proofs.Lines.{darkest_more}
use Rattle.contrast.proofs.darkest.darkest_of.Goals as goal

pub loop-p-init : goal.loop-p-init
unfolding darkest_of
loop-p-init c = refl

pub loop-p-preserved : goal.loop-p-preserved
loop-p-preserved c =
    let row = c.args.row.now in
    let k = c.loop-p.p-index in
    let next : darkest_of (take (k + 1) row) ≡ min (darkest_of (take k row)) (get_or row k 0) =
    ap darkest_of (ap (λ (j : ℕ). take j row) (add-one k) ∙ take-suc row k 0 (omega arith)) ∙ darkest_more (take k row) (get_or row k 0) in
    omega (arith, next, c.min-least.ensures)
