-- `layout::calls::to_page` meets its contract: a refusal has the guard's number, and no values.
use Rattle.std.proofs.Common.{rules}
use Rattle.layout.proofs.Pixels.{to_page_is}
use Rattle.layout.proofs.calls.to_page.Goals as goal

pub returns-in_err-missed : goal.returns-in_err-missed
returns-in_err-missed c = let s = c.args.shears.now in to_page_is s.sides s.shear.now s.shear_x.now c.args.p _ (search rules) (search rules)
