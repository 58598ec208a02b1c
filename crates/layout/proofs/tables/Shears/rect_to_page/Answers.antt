-- `Shears::rect_to_page` meets its contract: four corners, least and greatest, clamped.
use native.Mathlib.Omega.{arith}
use Rattle.layout.specs.ToPage.{least, greatest}
use Rattle.layout.proofs.Signed.{nearest_of_four}
use Rattle.layout.proofs.Back.{rect_is}
use Rattle.layout.proofs.tables.Shears.rect_to_page.Goals as goal

pub returns : goal.returns
returns c =
    let s = c.args.self.now in
    let a = c.to_page-a.result in
    let b = c.to_page-b.result in
    let c' = c.to_page-c.result in
    let d = c.to_page-d.result in
    rect_is s.sides s.shear.now s.shear_x.now c.args.r a b c' d c.clamped.result c.clamped-2.result c.clamped-3.result c.clamped-4.result
    c.to_page-a.ensures c.to_page-b.ensures c.to_page-c.ensures c.to_page-d.ensures
    (nearest_of_four least s.sides.pw a.0 b.0 c'.0 d.0 c.least.result c.clamped.result (omega arith) (omega arith) (omega arith) (omega arith) c.least.type_inv c.least.ensures c.clamped.ensures)
    (nearest_of_four least s.sides.ph a.1 b.1 c'.1 d.1 c.least-2.result c.clamped-2.result (omega arith) (omega arith) (omega arith) (omega arith) c.least-2.type_inv c.least-2.ensures c.clamped-2.ensures)
    (nearest_of_four greatest s.sides.pw a.0 b.0 c'.0 d.0 c.greatest.result c.clamped-3.result (omega arith) (omega arith) (omega arith) (omega arith) c.greatest.type_inv c.greatest.ensures c.clamped-3.ensures)
    (nearest_of_four greatest s.sides.ph a.1 b.1 c'.1 d.1 c.greatest-2.result c.clamped-4.result (omega arith) (omega arith) (omega arith) (omega arith) c.greatest-2.type_inv c.greatest-2.ensures c.clamped-4.ensures)
