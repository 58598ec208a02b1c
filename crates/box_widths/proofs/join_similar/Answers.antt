-- `join_similar` meets its contract: what is asked of two with different parents is whether their widths are similar.
use Rattle.std.proofs.Common.{rules}
use Rattle.box_widths.specs.Widths.{similar}
use Rattle.box_widths.proofs.join_similar.Goals as goal

pub returns : goal.returns
returns c = (c.join_if.ensures.joined (similar c.args.width c.args.other) (λ r p. search rules), c.join_if.ensures.one)
