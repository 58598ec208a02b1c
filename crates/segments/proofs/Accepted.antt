-- What a page is once its questions were answered yes.
use mathlib.Core.Path.{◌≡◌, sym}
use mathlib.Core.Bool.{true}
use mathlib.Core.List.{[], ◌∷◌}
use Prim.Native.Nat.{ℕ}
use lib.ListN.{length}
use Rattle.std.proofs.Common.{rules, tests}
use Rattle.lists.proofs.Every.{and_first, and_second}
use Rattle.questions.specs.Questions.{first_missed}
use Rattle.questions.proofs.FirstMissed.{all_yes, none_missed, yes_parts}
use Rattle.rects.specs.Rects.{count}
use Rattle.rects.proofs.Questions.{count_says, all_inside_says}
use Rattle.layout.specs.Sides.{raster_fits}
use Rattle.layout.proofs.Answers.{sides_say, raster_yes}
use Rattle.params.specs.Scan.{xheight_questions}
use Rattle.params.specs.Settings.{settings_questions}
use Rattle.params.specs.Steps.{SettingsPassed}
use Rattle.ruling_questions.specs.Lent.{Lent, room_for}
use Rattle.segments.specs.Call.{Given, has_room, questions}
use Rattle.segments.specs.Steps.{Roomy, Ready}

room_says : (n : ℕ) (l : Lent) → room_for n l ≡ true → Roomy n l
room_says n l t = search (rules, tests)

module _ (g : Given) (l : Lent) (none : 0 ≡ first_missed (questions g l)) where
  -- what the questions say of the settings
  pub settled : SettingsPassed g.settings g.xheight
  settled =
      let y = all_yes (questions g l) tt (sym none) in
      record {
        settings = none_missed (settings_questions g.settings) (yes_parts (settings_questions g.settings) ((14, has_room g l) ∷ []) y.1.1.1.1).0;
        xheight_passed = none_missed (xheight_questions g.xheight) (y.1.0, tt);
      }

  -- what the core is given
  pub ready : Ready (record { pixels = g.raster; w = g.w; h = g.h }) g.pieces l
  ready =
      let yes = all_yes (questions g l) tt (sym none) in
      let sides = sides_say g.w g.h yes.0 in
      let full = raster_fits g.w g.h (length g.raster) in
      let room : has_room g l ≡ true = yes.1.1.1.1.1.1.1.1.1.1.0 in
      record {
        picture = record { full = raster_yes g.w g.h (length g.raster) (and_first full (room_for (count g.pieces) l) room); narrow = sides.0; low = sides.1; inside = all_inside_says g.w g.h g.pieces yes.1.1.1.0 };
        few = (count_says 4096 g.pieces yes.1.1.0).1;
        roomy = room_says (count g.pieces) l (and_second full (room_for (count g.pieces) l) room);
      }
