-- `paper::areas::beside` meets its contract: two strips of rows, or two of columns.
use Rattle.paper.proofs.Sampling.{sampled_rows, sampled_columns}
use Rattle.paper.proofs.areas.beside.Goals as goal

pub returns-then-horizontal : goal.returns-then-horizontal
returns-then-horizontal c =
    sampled_rows c.args.w c.args.h c.args.r c.requires.0 c.requires.1 c.requires.2 c.strips_of-s.result c.width-columns.result c.args.horizontal c.width-columns.ensures c.if-horizontal.true c.strips_of-s.ensures

pub returns : goal.returns
returns c =
    sampled_columns c.args.w c.args.h c.args.r c.requires.0 c.requires.1 c.requires.2 c.strips_of-s-2.result c.height-rows.result c.args.horizontal c.height-rows.ensures c.if-horizontal.false c.strips_of-s-2.ensures
