-- `shear_runs::raster::copy` meets its contract: every place below i holds the byte of `from`.
use mathlib.Core.Path.{refl}
use native.Mathlib.Omega.{arith}
use Rattle.shear_runs.proofs.Agree.{agree_none, agree_more, agree_all}
use Rattle.shear_runs.proofs.raster.copy.Goals as goal

pub loop-i-init : goal.loop-i-init
loop-i-init c = agree_none _ _ c.requires

pub loop-i-preserved : goal.loop-i-preserved
loop-i-preserved c = agree_more _ c.loop-i.invariant (omega arith) refl

pub returns : goal.returns
returns c = agree_all c.loop-i.invariant (omega arith)
