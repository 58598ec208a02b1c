-- `write::write_rulings` meets its contract: one ruling more a turn.
use native.Mathlib.Omega.{arith}
use Rattle.listings.specs.Listed.{set_of}
use Rattle.ruling_lists.proofs.write.write_rulings.Invariants.{done, turn}
use Rattle.ruling_lists.proofs.write.write_rulings.Goals as goal

pub loop-k-preserved : goal.loop-k-preserved
loop-k-preserved c =
    let a = c.args in
    turn a.raster.now a.pieces.now (set_of a.sets.now) a.sets.now.count a.rects.now a.directions.now a.contrasts.now c.requires.2 c.loop-k.invariant c.loop-k-test.true c.at-set.ensures c.ruling_of-r.ensures c.put_rect.ensures c.direction.ensures

pub returns : goal.returns
returns c =
    let a = c.args in
    done a.raster.now a.pieces.now (set_of a.sets.now) a.sets.now.count c.loop-k.invariant (omega arith)
