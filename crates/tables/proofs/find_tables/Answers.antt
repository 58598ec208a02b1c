-- `find_tables` meets its contract: where no question is missed, all rulings are chosen and the core finds what there is.
use mathlib.Core.Path.{sym}
use native.Mathlib.Omega.{arith}
use lib.Seq.{length-take-le}
use Rattle.rects.specs.Rects.{count}
use Rattle.table_questions.specs.Lent.{lists_of}
use Rattle.tables.specs.Call.{Given}
use Rattle.tables.proofs.Passing.{Passed, passed}
use Rattle.tables.proofs.Accepting.{found, all_chosen, given_all, join_of, roomy_all}
use Rattle.tables.proofs.find_tables.Goals.{In_default, Start}
use Rattle.tables.proofs.find_tables.Goals as goal

-- what was given
abbrev given : Start → Given
given s = record { xheight = s.args.xheight; settings = s.args.p; rects = s.args.rects.now; directions = s.args.directions.now }

-- what the questions show
known : (c : In_default) → Passed (record { xheight = c.args.xheight; settings = c.args.p; rects = c.args.rects.now; directions = c.args.directions.now }) (lists_of c.args.lists.now) c.args.chosen.now
known c = passed _ _ _ c.in_default.ensures

pub begin-requires : goal.begin-requires
begin-requires c = let P = known (goal.at.begin-requires c).In_default in record { room = P.places; small = omega (arith, P.few) }

pub slice_bounds-all-end-2 : goal.slice_bounds-all-end-2
slice_bounds-all-end-2 c =
    let P = known (goal.at.slice_bounds-all-end-2 c).In_default in sym (length-take-le (count c.args.rects.now) c.begin.new.parents (omega (arith, P.places, c.begin.auto.parents)))

pub invariant_of-all : goal.invariant_of-all
invariant_of-all c = given_all (count c.args.rects.now) c.args.chosen.now c.begin.ensures (known (goal.at.invariant_of-all c).In_default).given

pub find-found-requires-clause-join_bound : goal.find-found-requires-clause-join_bound
find-found-requires-clause-join_bound c =
    join_of c.args.p c.args.xheight c.limits_of.ensures (known (goal.at.find-found-requires-clause-join_bound c).In_default).settled

pub find-found-requires-clause-roomy : goal.find-found-requires-clause-roomy
find-found-requires-clause-roomy c =
    roomy_all (lists_of c.args.lists.now) (known (goal.at.find-found-requires-clause-roomy c).In_default).roomy (all_chosen (count c.args.rects.now) c.args.chosen.now c.begin.ensures)

pub returns-clause-answers : goal.returns-clause-answers
returns-clause-answers c =
    found (given (goal.at.returns-clause-answers c).Start) (lists_of c.args.lists.now) c.args.chosen.now c.in_default.ensures _ _
    (all_chosen (count c.args.rects.now) c.args.chosen.now c.begin.ensures) c.limits_of.ensures c.find-found.ensures.filled
