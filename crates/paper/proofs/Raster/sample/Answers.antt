-- `Raster::sample` meets its contract: two areas are counted, and hold the samples between them.
use mathlib.Core.Path.{sym}
use Prim.Native.Nat.{◌*◌}
use native.Mathlib.Omega.{arith}
use Rattle.paper.specs.Pixels.{samples}
use Rattle.paper.specs.Steps.{pixels_of}
use Rattle.paper.proofs.Many.{tallied}
use Rattle.paper.proofs.Sampling.{room_second}
use Rattle.paper.proofs.Raster.sample.Goals as goal

pub count_area-requires-2 : goal.count_area-requires-2
count_area-requires-2 c =
    let R = rw (← c.self.view_is) at c.requires in
    let s = c.beside-s.result in
    let S = c.beside-s.ensures in
    let C = rw (← c.self.view_is) at c.count_area.ensures in
    let pixels = c.self.inside.pixels.now in
    rw (← c.self.view_is) (R.0.full, S.second_inside, room_second pixels c.self.inside.w c.self.inside.h s.first (s.second.rows * s.second.columns) c.args.counts.now c.count_area.new.counts S.first_inside S.second_inside.small R.1 c.count_area.auto.counts C)

pub returns : goal.returns
returns c =
    let R = rw (← c.self.view_is) at c.requires in
    let s = c.beside-s.result in
    let S = c.beside-s.ensures in
    let C = rw (← c.self.view_is) at c.count_area.ensures in
    let D = rw (← c.self.view_is) at c.count_area-2.ensures in
    let pixels = c.self.inside.pixels.now in
    let w = c.self.inside.w in
    rw (← c.self.view_is) (record {
      number = sym (S.number pixels);
      few = omega (arith, S.first_inside.small, S.second_inside.small);
      tallied = tallied (pixels_of pixels w s.first) (pixels_of pixels w s.second) (samples pixels w c.self.inside.h c.args.r c.args.horizontal) c.args.counts.now c.count_area.new.counts c.count_area-2.new.counts R.1.each (S.same pixels) C D;
    })
