-- What is known once the guard missed nothing.
use Rattle.std.specs.Prelude.{◌≡◌, true, [], ◌∷◌}
use mathlib.Core.Path.{sym}
use borrow.Author.Rules.{rules}
use Rattle.questions.specs.Questions.{first_missed}
use Rattle.questions.proofs.FirstMissed.{all_yes, none_missed, yes_parts}
use Rattle.params.specs.Scan.{xheight_questions}
use Rattle.params.specs.Settings.{settings_questions}
use Rattle.rects.specs.Rects.{count}
use Rattle.rects.proofs.Questions.{count_says, all_inside_says}
use Rattle.grids.specs.Lent.{Lent}
use Rattle.grids.specs.Call.{Given, has_room, questions}
use Rattle.params.specs.Steps.{SettingsPassed}
use Rattle.box_widths.specs.Steps.{PassedBoxes}
use Rattle.grids.specs.Steps.{Roomy}

room_says : (g : Given) (l : Lent) → has_room g l ≡ true → Roomy (count g.rects) l
room_says g l h = search rules

-- what a guard that missed nothing says
pub record Passed (g : Given) (l : Lent) : Type 0 where
  pub boxes : PassedBoxes g.rects
  pub settled : SettingsPassed g.settings g.xheight
  pub roomy : Roomy (count g.rects) l

pub passed : (g : Given) (l : Lent) → 0 ≡ first_missed (questions g l) → Passed g l
passed g l h =
    let y = all_yes (questions g l) tt (sym h) in
    record {
      boxes = record { inside = all_inside_says 8192 8192 g.rects y.1.1.0; few = (count_says 16384 g.rects y.1.0).1 };
      settled = record {
        settings = none_missed (settings_questions g.settings) (yes_parts (settings_questions g.settings) ((14, has_room g l) ∷ []) y.1.1.1).0;
        xheight_passed = none_missed (xheight_questions g.xheight) (y.0, tt);
      };
      roomy = room_says g l y.1.1.1.1.1.1.1.1.1.0;
    }
