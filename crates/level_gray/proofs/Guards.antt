-- What the guard's number gives: the core's facts where it is 0, and the refusal where it is not.
use mathlib.Core.Path.{◌≡◌, refl, sym, subst}
use mathlib.Core.List.{List}
use Prim.Native.Nat.{ℕ}
use lib.IntN.{ℤ}
use lib.ListN.{length}
use Rattle.questions.specs.declared.Missed.{Missed}
use Rattle.questions.specs.Missed.{number_of}
use Rattle.questions.specs.Questions.{first_missed}
use Rattle.questions.proofs.Numbers.{some_number}
use Rattle.layout.specs.declared.sides.Sides.{Sides}
use Rattle.layout.specs.Level.{levelled, Levelling}
use Rattle.layout.proofs.Levelling.{levelled_is}
use Rattle.levelling.specs.Steps.{Ready}
use Rattle.level_questions.specs.Questions.{level_questions}
use Rattle.level_questions.proofs.Guards.{passed_yes}
use Rattle.level_gray.specs.Call.{LevelGray}

module _ (sides : Sides) (gray : List ℕ) (shear shear_x : List ℤ) (out : List ℕ) where
  pub ready_yes : 0 ≡ first_missed (level_questions sides (length gray) shear shear_x (length out)) → Ready (record { sides = sides; shear = shear; shear_x = shear_x }) gray out
  ready_yes h =
      let yes = passed_yes sides shear shear_x (length gray) (length out) (sym h) in
      record { sheared = yes.sheared; grey_long = yes.page_long; out_long = yes.level_long }

  pub level_refused : (e : Missed) → number_of e ≡ first_missed (level_questions sides (length gray) shear shear_x (length out)) → LevelGray sides gray shear shear_x out out (number_of e)
  level_refused e n = record { number = n; refused = λ _. refl; answers = λ z. absurd (some_number e z); levelling = λ z. absurd (some_number e z) }

  pub level_accepted : (out' : List ℕ) → 0 ≡ first_missed (level_questions sides (length gray) shear shear_x (length out)) → out' ≡ levelled sides gray shear shear_x → LevelGray sides gray shear shear_x out out' 0
  level_accepted out' n h =
      record {
        number = n;
        refused = λ some. absurd (some refl);
        answers = λ _. h;
        levelling = λ _. subst (Levelling sides gray shear shear_x) (sym h) (levelled_is sides shear shear_x (ready_yes n).sheared gray);
      }
