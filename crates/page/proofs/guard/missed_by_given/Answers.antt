-- `guard::missed_by_given` meets its contract: sides and scan are asked before the lists, and these before the settings.
use Rattle.std.proofs.Common.{◌≡◌, ◌∙◌, ◌++◌, rules}
use Rattle.questions.specs.Missed.{number_of, number_in}
use Rattle.questions.proofs.FirstMissed.{stops, goes_on}
use Rattle.page.specs.Questions.{given_of_scan, given_of_lists, given_of_settings}
use Rattle.page.proofs.guard.missed_by_given.Goals as goal

pub returns-in_err-missed_by_scan : goal.returns-in_err-missed_by_scan
returns-in_err-missed_by_scan c =
    let g = c.args.page.now in
    let q = c.in_err-missed_by_scan.field-0.0 in
    let number : number_in c.from_residual.result ≡ number_of q = search rules in
    number ∙ stops q (given_of_scan g) (given_of_lists g ++ given_of_settings g.settings g.caps) c.in_err-missed_by_scan.ensures

pub returns-in_err-missed_by_lists : goal.returns-in_err-missed_by_lists
returns-in_err-missed_by_lists c =
    let g = c.args.page.now in
    let q = c.in_err-missed_by_lists.field-0.0 in
    let number : number_in c.from_residual-in_err-missed_by_lists.result ≡ number_of q = search rules in
    goes_on (given_of_scan g) (given_of_lists g ++ given_of_settings g.settings g.caps) tt c.in_ok-missed_by_scan.ensures
    (number ∙ stops q (given_of_lists g) (given_of_settings g.settings g.caps) c.in_err-missed_by_lists.ensures)

pub returns : goal.returns
returns c =
    let g = c.args.page.now in
    goes_on (given_of_scan g) (given_of_lists g ++ given_of_settings g.settings g.caps) tt c.in_ok-missed_by_scan.ensures
    (goes_on (given_of_lists g) (given_of_settings g.settings g.caps) tt c.in_ok-missed_by_lists.ensures (rw (← c.page.view_is) c.missed_by_settings.ensures))
