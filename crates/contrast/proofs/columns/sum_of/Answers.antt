-- `contrast::columns::sum_of` meets its contract: `sum` is that of the values before the next.
use mathlib.Core.Path.{◌≡◌, refl, ap, ◌∙◌}
use Prim.Native.Nat.{ℕ, ◌+◌}
use native.Mathlib.Omega.{arith}
use native.Mathlib.Numerals.{add-one}
use lib.ListN.{get_or, take}
use lib.Seq.{take-suc}
use Rattle.math.specs.Sum.{total}
use Rattle.contrast.proofs.Lines.{total_more}
use Rattle.contrast.proofs.columns.sum_of.Goals as goal

pub loop-v-init : goal.loop-v-init
unfolding total
loop-v-init c = (omega arith, refl)

pub loop-v-preserved : goal.loop-v-preserved
loop-v-preserved c =
    let values = c.args.values.now in
    let i = c.loop-v.v-index in
    let next : total (take (i + 1) values) ≡ total (take i values) + get_or values i 0 =
    ap total (ap (λ (j : ℕ). take j values) (add-one i) ∙ take-suc values i 0 (omega arith)) ∙ total_more (take i values) (get_or values i 0) in
    (omega (arith, c.from-sum.ensures), omega (arith, c.loop-v.invariant.1, c.from-sum.ensures, next))
