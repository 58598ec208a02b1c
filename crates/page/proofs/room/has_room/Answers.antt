-- `room::has_room` meets its contract: sides that fit are at most 8,192.
use Rattle.layout.proofs.Answers.{sides_yes}
use Rattle.page.proofs.room.has_room.Goals as goal

pub raster_fits-requires : goal.raster_fits-requires
raster_fits-requires c = let I = rw (← c.page.view_is) at c.requires in let s = sides_yes c.page.inside.sides I in (s.w_most, s.h_most)
