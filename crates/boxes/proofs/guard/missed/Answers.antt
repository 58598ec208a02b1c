-- `guard::missed` meets its contract: where the scan or the settings miss a question, it is the first of all that is missed.
use Rattle.std.proofs.Common.{◌≡◌, true, false, ◌&&◌, length, [], ◌∷◌, ◌∙◌, arith, rules}
use Rattle.std.proofs.lemmas.Grind.{common_steps}
use Rattle.questions.specs.Missed.{number_in, number_of}
use Rattle.questions.proofs.FirstMissed.{stops}
use Rattle.layout.specs.Sides.{levelled_sides_fit, raster_fits}
use Rattle.params.specs.Scan.{dpi_given, xheight_in_range}
use Rattle.params.specs.Settings.{settings_questions}
use Rattle.rects.specs.Rects.{count_fits, all_inside}
use Rattle.boxes.proofs.guard.missed.Goals as goal

pub returns-in_err-missed_by_scan : goal.returns-in_err-missed_by_scan
returns-in_err-missed_by_scan c =
    let q = c.in_err-missed_by_scan.field-0.0 in
    let number : number_in c.from_residual-in_err-missed_by_scan.result ≡ number_of q = search rules in
    let sides : levelled_sides_fit c.args.w c.args.h ≡ true = grind (arith, common_steps) in
    let scanned : dpi_given c.args.dpi && xheight_in_range c.args.xheight ≡ false = grind (arith, common_steps) in
    rw (sides, scanned) (number ∙ (rw scanned at c.in_err-missed_by_scan.ensures))

pub returns-in_err-missed_by_settings : goal.returns-in_err-missed_by_settings
returns-in_err-missed_by_settings c =
    let q = c.in_err-missed_by_settings.field-0.0 in
    let number : number_in c.from_residual-in_err-missed_by_settings.result ≡ number_of q = search rules in
    let a = c.args in
    let sides : levelled_sides_fit a.w a.h ≡ true = grind (arith, common_steps) in
    let scanned : dpi_given a.dpi && xheight_in_range a.xheight ≡ true = grind (arith, common_steps) in
    let raster : raster_fits a.w a.h (length a.ink.now) ≡ true = search rules in
    let counted : count_fits 16384 c.args.glyphs.now ≡ true = search rules in
    let inside : all_inside a.w a.h c.args.glyphs.now ≡ true = search rules in
    rw (sides, scanned, raster, counted, inside) (number ∙ stops q (settings_questions c.args.p) ((14, _) ∷ []) c.in_err-missed_by_settings.ensures)
