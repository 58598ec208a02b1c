-- What is known of a page that passed questions 1 to 13.
use mathlib.Core.Path.{◌≡◌}
use mathlib.Core.Bool.{◌&&◌}
use Prim.Native.Nat.{◌*◌, ◌≤◌}
use lib.ListN.{length}
use Rattle.lists.proofs.Every.{and_first, and_second}
use Rattle.questions.specs.Questions.{first_missed}
use Rattle.questions.proofs.FirstMissed.{all_yes, none_missed}
use Rattle.rects.specs.Rects.{count, count_fits, all_inside}
use Rattle.rects.specs.Steps.{AllInside}
use Rattle.rects.proofs.Questions.{count_says, all_inside_says}
use Rattle.layout.specs.Sides.{raster_fits}
use Rattle.layout.specs.Tables.{shears_long}
use Rattle.layout.specs.Steps.{Sheared}
use Rattle.layout.proofs.Answers.{SidesAre, sides_yes, raster_yes, sheared_yes}
use Rattle.params.specs.Scan.{dpi_given, xheight_in_range, xheight_questions}
use Rattle.params.specs.Settings.{settings_questions}
use Rattle.params.specs.Steps.{SettingsPassed}
use Rattle.params.proofs.Passed.{settings_passed}
use Rattle.page.specs.Page.{Page}
use Rattle.page.specs.Questions.{given_questions}

pub record Known (g : Page) : Type 0 where
  pub sides : SidesAre g.sides
  pub settled : SettingsPassed g.settings g.xheight
  pub sheared : Sheared g.sides g.shear g.shear_x
  pub grey : length g.gray ≡ g.sides.pw * g.sides.ph
  pub ink : length g.ink ≡ g.sides.w * g.sides.h
  pub few_pieces : count g.pieces ≤ 4096
  pub few_glyphs : count g.glyphs ≤ 16384
  pub pieces : AllInside g.sides.w g.sides.h g.pieces
  pub glyphs : AllInside g.sides.w g.sides.h g.glyphs
  pub rules : 1 ≤ g.settings.min_free_rules

pub known : (g : Page) → first_missed (given_questions g) ≡ 0 → Known g
known g z =
    let y = all_yes (given_questions g) tt z in
    let grey = raster_fits g.sides.pw g.sides.ph (length g.gray) in
    let inked = raster_fits g.sides.w g.sides.h (length g.ink) in
    let long = shears_long g.sides g.shear g.shear_x in
    let q3 = y.1.1.0 in
    let q5 = y.1.1.1.1.0 in
    let q6 = y.1.1.1.1.1.0 in
    let v = y.1.1.1.1.1.1 in
    let S : SettingsPassed g.settings g.xheight = record {
      settings = none_missed (settings_questions g.settings) (v.0, (v.1.0, (v.1.1.0, (v.1.1.1.0, (v.1.1.1.1.0, (v.1.1.1.1.1.1.0, tt))))));
      xheight_passed = none_missed (xheight_questions g.xheight) (and_second (dpi_given g.dpi) (xheight_in_range g.xheight) y.1.0, tt);
    } in
    let n : count g.pieces ≤ 4096 = (count_says 4096 g.pieces (and_first (count_fits 4096 g.pieces) (count_fits 16384 g.glyphs) q5)).1 in
    let m : count g.glyphs ≤ 16384 = (count_says 16384 g.glyphs (and_second (count_fits 4096 g.pieces) (count_fits 16384 g.glyphs) q5)).1 in
    record {
      sides = sides_yes g.sides y.0;
      settled = S;
      sheared = sheared_yes g.sides g.shear g.shear_x y.0 (and_second (grey && inked) long q3) y.1.1.1.0;
      grey = raster_yes g.sides.pw g.sides.ph (length g.gray) (and_first grey inked (and_first (grey && inked) long q3));
      ink = raster_yes g.sides.w g.sides.h (length g.ink) (and_second grey inked (and_first (grey && inked) long q3));
      few_pieces = n;
      few_glyphs = m;
      pieces = all_inside_says g.sides.w g.sides.h g.pieces (and_first (all_inside g.sides.w g.sides.h g.pieces) (all_inside g.sides.w g.sides.h g.glyphs) q6);
      glyphs = all_inside_says g.sides.w g.sides.h g.glyphs (and_second (all_inside g.sides.w g.sides.h g.pieces) (all_inside g.sides.w g.sides.h g.glyphs) q6);
      rules = (settings_passed g.settings S.settings).1;
    }
