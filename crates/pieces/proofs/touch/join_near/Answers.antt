-- `touch::join_near` meets its contract: what is asked of two with different parents is whether the centres are near.
use Rattle.std.proofs.Common.{rules}
use Rattle.rects.specs.Rects.{rect_at}
use Rattle.pieces.specs.Pieces.{within}
use Rattle.pieces.specs.Steps.{centre_in}
use Rattle.pieces.proofs.touch.join_near.Goals as goal

pub returns : goal.returns
returns c =
    let a = c.args in
    c.join_if.ensures.joined (within a.reach a.centre (centre_in a.horizontal (rect_at a.pieces.now a.j))) (λ r p. search rules)
