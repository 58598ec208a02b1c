-- `levelling::pad_rows` meets its contract: the margins are white in the rows from the first up to y.
use mathlib.Core.Path.{◌≡◌}
use native.Mathlib.Omega.{arith}
use Rattle.layout.specs.Steps.{shears_of}
use Rattle.levelling.proofs.Settle.{margins_more}
use Rattle.levelling.proofs.pad_rows.Goals as goal

pub loop-y-preserved : goal.loop-y-preserved
loop-y-preserved c =
    let a = c.args in
    margins_more (shears_of a.shears.now) a.rows.from c.loop-y.y c.across-from.result (omega arith) c.across-from.ensures c.loop-y.invariant c.pad_row.ensures

pub returns : goal.returns
returns c =
    let a = c.args in
    let end : c.loop-y.y ≡ a.rows.to = omega (arith, c.requires.1.1.0) in
    rw end at c.loop-y.invariant
