-- `guard::missed_by_settings` meets its contract: the settings' questions stand before the caps', and these before that of the free rules. That the
-- questions before are answered yes is asked of the search, since a must-fail edit turns two of them round.
use Rattle.std.proofs.Common.{◌≡◌, ◌++◌, rules}
use Rattle.questions.specs.Questions.{first_missed}
use Rattle.questions.specs.Missed.{number_of}
use Rattle.questions.proofs.FirstMissed.{stops, goes_on}
use Rattle.params.specs.Settings.{validate_questions, fusion_questions, free_rules_questions}
use Rattle.page.proofs.guard.missed_by_settings.Goals as goal

pub returns-in_err-validate : goal.returns-in_err-validate
returns-in_err-validate c =
    let q = c.in_err-validate.field-0.0 in
    let stopped : number_of q ≡ first_missed (validate_questions c.args.p ++ (fusion_questions c.args.f ++ free_rules_questions c.args.p)) =
    stops q (validate_questions c.args.p) (fusion_questions c.args.f ++ free_rules_questions c.args.p) c.in_err-validate.ensures in
    search (stopped, rules)

pub returns-in_err-missed_by_fusion : goal.returns-in_err-missed_by_fusion
returns-in_err-missed_by_fusion c =
    let q = c.in_err-missed_by_fusion.field-0.0 in
    let passed : 0 ≡ first_missed (validate_questions c.args.p) = search rules in
    let stopped : number_of q ≡ first_missed (validate_questions c.args.p ++ (fusion_questions c.args.f ++ free_rules_questions c.args.p)) =
    goes_on (validate_questions c.args.p) (fusion_questions c.args.f ++ free_rules_questions c.args.p) tt passed
    (stops q (fusion_questions c.args.f) (free_rules_questions c.args.p) c.in_err-missed_by_fusion.ensures) in
    search (stopped, rules)

pub returns : goal.returns
returns c =
    let passed : 0 ≡ first_missed (validate_questions c.args.p) = search rules in
    let capped : 0 ≡ first_missed (fusion_questions c.args.f) = search rules in
    goes_on (validate_questions c.args.p) (fusion_questions c.args.f ++ free_rules_questions c.args.p) tt passed
    (goes_on (fusion_questions c.args.f) (free_rules_questions c.args.p) tt capped c.missed_by_free_rules.ensures)
