-- `detect` meets its contract: the questions decide, and then the page is read.
use Rattle.std.proofs.Common.{sym, ap, ◌∙◌}
use Rattle.page.specs.Lent.{lent}
use Rattle.page.specs.Answer.{refusal}
use Rattle.questions.proofs.Numbers.{some_number}
use Rattle.read_page.proofs.Known.{known}
use Rattle.detect.proofs.Finds.{room_of, counted, ready, finish}
use Rattle.detect.proofs.Answering.{refused, passed, answered}
use Rattle.detect.proofs.detect.Goals as goal

pub returns-in-Err-clause-detected : goal.returns-in-Err-clause-detected
returns-in-Err-clause-detected c =
    let a = c.args in
    refused a.page.now (lent a.rules.now a.marks.now a.found.now) (c.refused.ensures ∙ ap refusal c.number.ensures) c.in-Err.ensures (some_number c.in-Err.question)

pub read-ruled-requires : goal.read-ruled-requires
read-ruled-requires c =
    let a = c.args in
    let l = lent a.rules.now a.marks.now a.found.now in
    let P = passed a.page.now l (sym c.in_default.ensures) in
    record { given = P.given; room = (room_of a.page.now (known a.page.now P.given) l P.room).rules }

pub read-marked-requires : goal.read-marked-requires
read-marked-requires c =
    let a = c.args in
    let l = lent a.rules.now a.marks.now a.found.now in
    let P = passed a.page.now l (sym c.in_default.ensures) in
    record { given = P.given; room = (room_of a.page.now (known a.page.now P.given) l P.room).marks }

pub find-findings-requires : goal.find-findings-requires
find-findings-requires c =
    let a = c.args in
    let l = lent a.rules.now a.marks.now a.found.now in
    let P = passed a.page.now l (sym c.in_default.ensures) in
    let K = known a.page.now P.given in
    let D = c.read-ruled.ensures.done in
    let M = c.read-marked.ensures.done in
    ready a.page.now K l (room_of a.page.now K l P.room) D M (counted D M)

pub returns-clause-detected : goal.returns-clause-detected
returns-clause-detected c =
    let a = c.args in
    let l = lent a.rules.now a.marks.now a.found.now in
    let z = sym c.in_default.ensures in
    let K = known a.page.now (passed a.page.now l z).given in
    let D = c.read-ruled.ensures.done in
    let M = c.read-marked.ensures.done in
    let F = c.find-findings.ensures in
    answered a.page.now l z (finish a.page.now K l (room_of a.page.now K l (passed a.page.now l z).room) D M (counted D M) F.kept.0 F.kept.1 F.found) c.answered.ensures
