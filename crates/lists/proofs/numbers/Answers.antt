-- `lists::numbers` meets its contract: after i turns the first i places hold the numbers below i, and the rest is kept.
use mathlib.Core.Path.{◌≡◌, refl}
use native.Mathlib.Numerals.{add-one}
use native.Mathlib.Omega.{arith}
use Rattle.lists.specs.Lists.{below}
use Rattle.lists.proofs.Keep.{length_below}
use Rattle.lists.proofs.Written.{written_more}
use Rattle.lists.proofs.numbers.Goals as goal

pub loop-i-preserved : goal.loop-i-preserved
loop-i-preserved c =
    let i = c.loop-i.i in
    rw (add-one i) (written_more (below i) c.args.list.now i c.loop-i.invariant (length_below i) (omega arith) refl)

pub returns : goal.returns
returns c =
    let end : c.loop-i.i ≡ c.args.n = omega arith in
    rw end at c.loop-i.invariant
