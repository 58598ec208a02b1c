-- `shear_runs::raster::whiten` meets its contract: the library's `fill`.
use Rattle.shear_runs.proofs.raster.whiten.Goals as goal

pub returns : goal.returns
returns c = c.fill.ensures.after (λ y e. e)
