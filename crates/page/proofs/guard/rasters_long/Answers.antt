-- `guard::rasters_long` meets its contract: sides that fit are at most 8,192.
use native.Mathlib.Omega.{arith}
use Rattle.layout.proofs.Answers.{sides_yes}
use Rattle.page.proofs.guard.rasters_long.Goals as goal

pub raster_fits-requires : goal.raster_fits-requires
raster_fits-requires c = let I = rw (← c.page.view_is) at c.requires in let s = sides_yes c.page.inside.sides I in (omega (arith, s.page_wide, s.w_most), omega (arith, s.page_high, s.h_most))

pub raster_fits-requires-2 : goal.raster_fits-requires-2
raster_fits-requires-2 c = let I = rw (← c.page.view_is) at c.requires in let s = sides_yes c.page.inside.sides I in (s.w_most, s.h_most)
