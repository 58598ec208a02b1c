-- What the functions of `params` ask and leave; none of it is needed to read the contracts.
use Rattle.std.specs.Prelude.{◌≡◌, Float}
use Rattle.questions.specs.Questions.{first_missed}
use Rattle.params.specs.declared.settings.RulingsParams.{RulingsParams}
use Rattle.params.specs.Scan.{xheight_questions}
use Rattle.params.specs.Settings.{settings_questions}

-- The settings and the x-height miss no question.
pub record SettingsPassed (p : RulingsParams) (xheight : Float) : Type 0 where
  pub settings : first_missed (settings_questions p) ≡ 0
  pub xheight_passed : first_missed (xheight_questions xheight) ≡ 0
