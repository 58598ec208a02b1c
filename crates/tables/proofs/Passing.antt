-- What is known once the guard missed nothing.
use Rattle.std.specs.Prelude.{◌≡◌, ℕ, ◌<◌, ◌≤◌, true, ◌&&◌, eqb, leb, List, [], ◌∷◌, length, get_or}
use mathlib.Core.Path.{sym}
use borrow.Author.Rules.{rules}
use borrow.Author.Tests.{eqb-true}
use Rattle.lists.specs.Lists.{below, every_below}
use Rattle.lists.proofs.Every.{and_first, and_second}
use Rattle.lists.proofs.Keep.{length_below, get_d_below}
use Rattle.questions.specs.Questions.{first_missed}
use Rattle.questions.proofs.FirstMissed.{all_yes, none_missed, yes_parts}
use Rattle.params.specs.Scan.{xheight_questions}
use Rattle.params.specs.Settings.{settings_questions}
use Rattle.rects.specs.Rects.{count, count_fits, all_inside}
use Rattle.rects.proofs.Questions.{count_says, all_inside_says, has_numbers}
use Rattle.table_questions.specs.Questions.{directions_fit}
use Rattle.table_questions.specs.Lent.{Lists, room_for}
use Rattle.meeting.specs.Steps as Meeting
use Rattle.params.specs.Steps.{SettingsPassed}
use Rattle.tables.specs.Call.{Given, questions, places}
use Rattle.tables.specs.Steps.{Roomy, with_chosen}

-- room by the tests, each of which passed
room_says : (n : ℕ) (l : Lists) (chosen : List ℕ) → room_for n l chosen ≡ true → Roomy n l × (n ≤ length chosen)
room_says n l chosen h = search rules

given_says : (rects directions : List ℕ) → count_fits 4096 rects && directions_fit rects directions ≡ true → all_inside 8192 8192 rects ≡ true
    → Meeting.Given rects directions (below (count rects))
given_says rects directions g h =
    let c = count_says 4096 rects (and_first (count_fits 4096 rects) (directions_fit rects directions) g) in
    let d = and_second (count_fits 4096 rects) (directions_fit rects directions) g in
    let e = eqb-true (length directions) (count rects) (and_first (eqb (length directions) (count rects)) (every_below (length directions) (λ k. leb (get_or directions k 0) 1)) d) in
    record {
      inside = λ i l. let k : i < count rects = rw (length_below (count rects)) at l in rw (get_d_below (count rects) i k) (all_inside_says 8192 8192 rects h i k);
      rect = λ i l. let k : i < count rects = rw (length_below (count rects)) at l in rw (get_d_below (count rects) i k) (has_numbers (length rects) i k);
      direction = λ i l. let k : i < count rects = rw (length_below (count rects)) at l in rw (get_d_below (count rects) i k, e) k;
      few = rw (length_below (count rects)) c.1;
    }

-- what a guard that missed nothing says
pub record Passed (g : Given) (l : Lists) (chosen : List ℕ) : Type 0 where
  pub given : Meeting.Given g.rects g.directions (places g)
  pub settled : SettingsPassed g.settings g.xheight
  pub roomy : Roomy (count g.rects) l
  pub places : count g.rects ≤ length chosen
  pub few : count g.rects ≤ 4096

pub passed : (g : Given) (l : Lists) (chosen : List ℕ) → 0 ≡ first_missed (questions g (with_chosen l chosen)) → Passed g l chosen
passed g l chosen h =
    let room = room_for (count g.rects) l chosen in
    let y = all_yes (questions g (with_chosen l chosen)) tt (sym h) in
    let r = room_says (count g.rects) l chosen y.1.1.1.1.1.1.1.1.1.0 in
    record {
      given = given_says g.rects g.directions y.1.0 y.1.1.0;
      settled = record {
        settings = none_missed (settings_questions g.settings) (yes_parts (settings_questions g.settings) ((14, room) ∷ []) y.1.1.1).0;
        xheight_passed = none_missed (xheight_questions g.xheight) (y.0, tt);
      };
      roomy = r.0;
      places = r.1;
      few = (count_says 4096 g.rects (and_first (count_fits 4096 g.rects) (directions_fit g.rects g.directions) y.1.0)).1;
    }
