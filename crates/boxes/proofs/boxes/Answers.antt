-- `boxes::boxes` meets its contract: where no question is missed, the core finds the boxes. That none is missed is searched for, and not read off
-- the call, so that it may be known in any way.
use Rattle.std.proofs.Common.{◌≡◌, rules}
use Rattle.questions.specs.Questions.{first_missed}
use Rattle.box_lists.specs.Steps.{lists_of}
use Rattle.boxes.specs.Call.{Given, Lent, questions}
use Rattle.boxes.proofs.Accepted.{accepted_ready}
use Rattle.boxes.proofs.Call.{accepted}
use Rattle.boxes.proofs.boxes.Goals.{Start}
use Rattle.boxes.proofs.boxes.Goals as goal

-- what was given, and what was lent
abbrev given : Start → Given
given s =
    let a = s.args in
    record { w = a.w; h = a.h; dpi = a.dpi; xheight = a.xheight; settings = a.p; ink = a.ink.now; glyphs = a.glyphs.now }

abbrev lent : Start → Lent
lent s = record { rects = s.args.rects.now; marks = s.args.marks.now; coverages = s.args.coverages.now }

pub find-count-requires : goal.find-count-requires
find-count-requires c =
    let s = (goal.at.find-count-requires c).Start in
    let none : 0 ≡ first_missed (questions (given s) (lent s)) = search rules in
    rw c.limits_of-l.ensures (accepted_ready (given s) (lent s) none)

pub returns : goal.returns
returns c =
    let s = (goal.at.returns c).Start in
    let none : 0 ≡ first_missed (questions (given s) (lent s)) = search rules in
    let A = accepted (given s) (lent s) none (lists_of c.find-count.new.lists) c.limits_of-l.ensures c.find-count.ensures.made in
    search rules
