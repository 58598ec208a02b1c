-- `levelling::level_part` meets its contract: the part of the row that the columns take shows them.
use mathlib.Core.Path.{refl}
use Prim.Native.Nat.{◌+◌, ◌-◌, ◌*◌}
use native.Mathlib.Omega.{arith}
use Rattle.layout.specs.Steps.{shears_of}
use Rattle.levelling.proofs.Settle.{part_settled}
use Rattle.levelling.proofs.level_part.Goals as goal

pub returns : goal.returns
returns c =
    let a = c.args in
    let pre = c.requires in
    part_settled (shears_of a.shears.now) a.gray.now a.out.now a.part.from a.part.to a.y pre.0 pre.1.0 pre.1.1 c.across.result (a.y * a.shears.now.sides.w + c.across.result + a.part.from) (a.y * a.shears.now.sides.w + c.across.result + a.part.to - (a.y * a.shears.now.sides.w + c.across.result + a.part.from)) _ c.across.ensures refl (omega arith) c.level_together.ensures
