-- `touch::similar` meets its contract: the difference of whole numbers and the greatest of them are exact floats.
use Prim.Native.Nat.{max}
use mathlib.Core.Path.{◌≡◌}
use native.Mathlib.Omega.{arith}
use Rattle.std.proofs.lemmas.Grind.{common_steps}
use Rattle.rects.specs.Rects.{distance}
use Rattle.box_widths.proofs.SimilarWidths.{found_similar}
use Rattle.box_widths.proofs.similar.Goals as goal

pub returns : goal.returns
returns c =
    let a = c.args.a in
    let b = c.args.b in
    let apart : c.abs_diff.result ≡ distance a b = omega (arith, c.abs_diff.ensures) in
    let larger : c.max.result ≡ max a b = grind (arith, common_steps) in
    rw (c.from.ensures, c.from-2.ensures) (found_similar a b (omega (arith, c.ranges)) (omega (arith, c.ranges)) apart larger)
