-- `Scan::around` meets its contract: the rectangle around some that are inside is inside.
use native.Mathlib.Omega.{arith}
use Rattle.rects.specs.Steps.{Inside}
use Rattle.findings.proofs.Given.{places_given, set_inside}
use Rattle.findings.proofs.sources.Scan.around.Goals as goal

pub bounding-r-requires : goal.bounding-r-requires
bounding-r-requires c = (c.requires.some, places_given c.args.rects.now c.args.places.now c.requires)

pub on_page-requires : goal.on_page-requires
on_page-requires c =
    let sides = c.args.self.now.sides in
    let I : Inside sides.w sides.h c.bounding-r.result = rw c.bounding-r.ensures (set_inside c.args.rects.now c.args.places.now c.requires) in
    record { wide = omega (arith, I.wide); high = omega (arith, I.high); right = omega (arith, I.wide, I.right); bottom = omega (arith, I.bottom) }
