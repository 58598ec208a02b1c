-- `guard::missed` meets its contract: where x-height or settings miss a question, it is the first of all that is missed.
use Rattle.std.proofs.Common.{◌≡◌, ◌∙◌, [], ◌∷◌, true, false, arith, rules}
use Rattle.std.proofs.lemmas.Grind.{common_steps}
use Rattle.questions.specs.Missed.{number_of, number_in}
use Rattle.questions.proofs.FirstMissed.{stops}
use Rattle.questions.proofs.Numbers.{some_number}
use Rattle.layout.specs.Sides.{levelled_sides_fit}
use Rattle.params.specs.Scan.{xheight_in_range}
use Rattle.params.specs.Settings.{settings_questions}
use Rattle.rects.specs.Rects.{count, count_fits, all_inside}
use Rattle.ruling_questions.proofs.guard.missed.Goals as goal

pub returns-in_err-missed_by_xheight : goal.returns-in_err-missed_by_xheight
returns-in_err-missed_by_xheight c =
    let q = c.in_err-missed_by_xheight.field-0.0 in
    let number : number_in c.from_residual-in_err-missed_by_xheight.result ≡ number_of q = search rules in
    let sides : levelled_sides_fit c.args.w c.args.h ≡ true = search rules in
    let unscaled : xheight_in_range c.args.xheight ≡ false = grind (arith, some_number) in
    rw (sides, unscaled) (number ∙ rw unscaled at c.in_err-missed_by_xheight.ensures)

pub returns-in_err-missed_by_settings : goal.returns-in_err-missed_by_settings
returns-in_err-missed_by_settings c =
    let a = c.args in
    let n = count a.pieces.now in
    let q = c.in_err-missed_by_settings.field-0.0 in
    let number : number_in c.from_residual-in_err-missed_by_settings.result ≡ number_of q = search rules in
    let sides : levelled_sides_fit a.w a.h ≡ true = search rules in
    let scaled : xheight_in_range a.xheight ≡ true = grind (arith, common_steps) in
    let counted : count_fits 4096 a.pieces.now ≡ true = search rules in
    let inside : all_inside a.w a.h a.pieces.now ≡ true = search rules in
    rw (sides, scaled, counted, inside) (number ∙ stops q (settings_questions a.p) ((14, _) ∷ []) c.in_err-missed_by_settings.ensures)
