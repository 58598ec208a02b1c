-- `shear_runs::raster::copy` meets its contract: every place below i holds the byte of `from`.
use Rattle.shear_runs.proofs.Agree.{Agree}
use Rattle.shear_runs.proofs.raster.copy.Given as goal

abbrev pub invariant-loop-i : goal.invariant-loop-i
invariant-loop-i l = Agree l.i l.to l.from
