-- `segments::find_rulings` meets its contract: what the guard answers, and the core's lists where it misses nothing.
use Rattle.params.proofs.Limits.{limits}
use Rattle.ruling_questions.specs.Lent.{lists_of}
use Rattle.segments.specs.Call.{Given}
use Rattle.segments.proofs.Accepted.{settled, ready}
use Rattle.segments.proofs.Call.{passed}
use Rattle.segments.proofs.segments.find_rulings.Goals.{Start}
use Rattle.segments.proofs.segments.find_rulings.Goals as goal

-- what was given
abbrev given : Start → Given
given s =
    let a = s.args in
    record { raster = a.raster.now; w = a.w; h = a.h; xheight = a.xheight; settings = a.p; pieces = a.pieces.now }

pub limit_u32-across-requires : goal.limit_u32-across-requires
limit_u32-across-requires c =
    let S = (goal.at.limit_u32-across-requires c).Start in
    (limits c.args.p c.args.xheight (settled (given S) (lists_of c.args.lists.now) c.in_default.ensures)).across

pub limit_u32-gap-requires : goal.limit_u32-gap-requires
limit_u32-gap-requires c =
    let S = (goal.at.limit_u32-gap-requires c).Start in
    (limits c.args.p c.args.xheight (settled (given S) (lists_of c.args.lists.now) c.in_default.ensures)).gap

pub rulings-count-requires : goal.rulings-count-requires
rulings-count-requires c =
    let S = (goal.at.rulings-count-requires c).Start in ready (given S) (lists_of c.args.lists.now) c.in_default.ensures

pub returns-clause-answers : goal.returns-clause-answers
returns-clause-answers c =
    let S = (goal.at.returns-clause-answers c).Start in
    passed (given S) (lists_of c.args.lists.now) c.in_default.ensures _ c.limit_u32-across.ensures c.limit_u32-gap.ensures c.rulings-count.ensures.made
