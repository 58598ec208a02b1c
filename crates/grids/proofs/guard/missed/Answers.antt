-- `guard::missed` meets its contract: where the settings miss a question, it is the first of all that is missed.
use Rattle.std.proofs.Common.{◌≡◌, true, [], ◌∷◌, ◌∙◌, arith, rules}
use Rattle.std.proofs.lemmas.Grind.{common_steps}
use Rattle.questions.specs.Missed.{number_in, number_of}
use Rattle.questions.proofs.FirstMissed.{stops}
use Rattle.params.specs.Scan.{xheight_in_range}
use Rattle.params.specs.Settings.{settings_questions}
use Rattle.rects.specs.Rects.{count_fits, all_inside}
use Rattle.grids.proofs.guard.missed.Goals as goal

pub returns-in_err-missed_by_settings : goal.returns-in_err-missed_by_settings
returns-in_err-missed_by_settings c =
    let q = c.in_err-missed_by_settings.field-0.0 in
    let number : number_in c.from_residual-in_err-missed_by_settings.result ≡ number_of q = search rules in
    let scaled : xheight_in_range c.args.xheight ≡ true = grind (arith, common_steps) in
    let counted : count_fits 16384 c.args.rects.now ≡ true = search rules in
    let inside : all_inside 8192 8192 c.args.rects.now ≡ true = search rules in
    rw (scaled, counted, inside) (number ∙ stops q (settings_questions c.args.p) ((14, _) ∷ []) c.in_err-missed_by_settings.ensures)
