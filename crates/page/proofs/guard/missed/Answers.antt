-- `guard::missed` meets its contract: room is asked last.
use Rattle.std.proofs.Common.{◌≡◌, ◌∙◌, [], ◌∷◌, rules}
use Rattle.questions.specs.Missed.{number_of, number_in}
use Rattle.questions.proofs.FirstMissed.{stops, goes_on}
use Rattle.page.specs.Lent.{lent}
use Rattle.page.specs.Questions.{roomy, given_questions}
use Rattle.page.proofs.guard.missed.Goals as goal

pub returns-in_err-missed_by_given : goal.returns-in_err-missed_by_given
returns-in_err-missed_by_given c =
    let a = c.args in
    let q = c.in_err-missed_by_given.field-0.0 in
    let number : number_in c.from_residual.result ≡ number_of q = search rules in
    number ∙ stops q (given_questions a.page.now) ((14, roomy a.page.now (lent a.rules.now a.marks.now a.found.now)) ∷ []) c.in_err-missed_by_given.ensures

pub returns : goal.returns
returns c =
    let a = c.args in
    goes_on (given_questions a.page.now) ((14, roomy a.page.now (lent a.rules.now a.marks.now a.found.now)) ∷ []) tt c.in_ok-missed_by_given.ensures (rw (← c.has_room.ensures) c.ask.ensures)
