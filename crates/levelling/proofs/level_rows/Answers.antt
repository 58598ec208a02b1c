-- `levelling::level_rows` meets its contract: the margins are white, and the page columns up to x are levelled.
use native.Mathlib.Omega.{arith}
use Rattle.layout.specs.Steps.{shears_of}
use Rattle.levelling.proofs.Settle.{band_whole}
use Rattle.levelling.proofs.level_rows.Goals as goal

pub returns : goal.returns
returns c =
    let a = c.args in
    band_whole (shears_of a.shears.now) a.gray.now a.rows.from a.rows.to c.loop-x.x (omega (arith, c.loop-x-test.false, c.requires.0.sheared.columns.long)) c.pad_rows.ensures c.loop-x.invariant.1
