-- `Scan::on_page` meets its contract: the corners of a rectangle inside lie in the picture.
use native.Mathlib.Omega.{arith}
use Rattle.findings.proofs.OnPage.{corner_small}
use Rattle.findings.proofs.sources.Scan.on_page.Goals as goal

pub rect_to_page-requires : goal.rect_to_page-requires
rect_to_page-requires c =
    let M = c.self.invariant in
    let I = rw (← c.self.view_is) at c.requires in
    (M.sheared, (M.paged c.args.r I, ((omega (arith, I.wide, I.right), omega (arith, I.high, I.bottom)), (omega (arith, I.wide, I.right), omega (arith, I.bottom)))))

pub returns : goal.returns
returns c =
    let M = c.self.invariant in
    let small = corner_small c.self.inside.shears.sides c.self.inside.shears.shear.now c.self.inside.shears.shear_x.now c.args.r M.sheared in
    record { place = rw (← c.self.view_is) c.rect_to_page.ensures; small = rw c.rect_to_page.ensures small }
