-- `guard::missed` meets its contract: where x-height or settings miss a question, it is the first of all that is missed.
use Rattle.std.proofs.Common.{◌≡◌, true, false, ◌&&◌, [], ◌∷◌, ◌∙◌, arith, rules}
use Rattle.std.proofs.lemmas.Grind.{common_steps}
use Rattle.questions.specs.Missed.{number_in, number_of}
use Rattle.questions.proofs.FirstMissed.{stops}
use Rattle.questions.proofs.Numbers.{some_number}
use Rattle.params.specs.Scan.{xheight_in_range}
use Rattle.params.specs.Settings.{settings_questions}
use Rattle.rects.specs.Rects.{count_fits, all_inside}
use Rattle.table_questions.specs.Questions.{directions_fit}
use Rattle.table_questions.proofs.guard.missed.Goals as goal

pub returns-in_err-missed_by_xheight : goal.returns-in_err-missed_by_xheight
returns-in_err-missed_by_xheight c =
    let q = c.in_err-missed_by_xheight.field-0.0 in
    let number : number_in c.from_residual.result ≡ number_of q = search rules in
    let unscaled : xheight_in_range c.args.xheight ≡ false = grind (arith, some_number) in
    rw unscaled (number ∙ rw unscaled at c.in_err-missed_by_xheight.ensures)

pub returns-in_err-missed_by_settings : goal.returns-in_err-missed_by_settings
returns-in_err-missed_by_settings c =
    let q = c.in_err-missed_by_settings.field-0.0 in
    let number : number_in c.from_residual-in_err-missed_by_settings.result ≡ number_of q = search rules in
    let scaled : xheight_in_range c.args.xheight ≡ true = grind (arith, common_steps) in
    let given : count_fits 4096 c.args.rects.now && directions_fit c.args.rects.now c.args.directions.now ≡ true = search rules in
    let inside : all_inside 8192 8192 c.args.rects.now ≡ true = search rules in
    rw (scaled, given, inside) (number ∙ stops q (settings_questions c.args.p) ((14, _) ∷ []) c.in_err-missed_by_settings.ensures)
