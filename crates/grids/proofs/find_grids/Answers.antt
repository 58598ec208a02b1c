-- `find_grids` meets its contract: once the guard asked, the core finds what there is.
use Rattle.grids.specs.Lent.{lists_of}
use Rattle.grids.specs.Call.{Given}
use Rattle.grids.proofs.Passing.{passed}
use Rattle.grids.proofs.Accepting.{limit_small, accepted}
use Rattle.grids.proofs.find_grids.Goals.{Start}
use Rattle.grids.proofs.find_grids.Goals as goal

-- what was given
abbrev given : Start → Given
given s = record { xheight = s.args.xheight; settings = s.args.p; rects = s.args.rects.now }

pub find-found-requires : goal.find-found-requires
find-found-requires c =
    let P = passed (given (goal.at.find-found-requires c).Start) (lists_of c.args.lists.now) c.in_default.ensures in
    (limit_small c.args.p c.args.xheight P.settled c.limit-limit.ensures, P.boxes, P.roomy)

pub returns-clause-answers : goal.returns-clause-answers
returns-clause-answers c =
    accepted (given (goal.at.returns-clause-answers c).Start) (lists_of c.args.lists.now) c.in_default.ensures _ c.limit-limit.ensures c.find-found.ensures.filled
