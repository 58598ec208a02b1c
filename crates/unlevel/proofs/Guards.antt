-- What the guard's number gives: the core's facts where it is 0, and the refusal where it is not.
use mathlib.Core.Path.{◌≡◌, refl, sym, ap, ◌∙◌}
use mathlib.Core.List.{List}
use Prim.Native.Nat.{ℕ}
use lib.IntN.{ℤ}
use lib.ListN.{length}
use Rattle.questions.specs.declared.Missed.{Missed}
use Rattle.questions.specs.Missed.{number_of}
use Rattle.questions.specs.Questions.{first_missed}
use Rattle.questions.proofs.Numbers.{some_number}
use Rattle.layout.specs.declared.sides.Sides.{Sides}
use Rattle.layout.specs.Level.{levelled, unlevelled}
use Rattle.layout.proofs.Unlevelling as Back
use Rattle.unlevelling.specs.Steps.{Archived, PageLong}
use Rattle.level_questions.specs.Questions.{level_questions}
use Rattle.level_questions.proofs.Guards.{passed_yes}
use Rattle.unlevel.specs.Call.{Unlevel}

module _ (sides : Sides) (level : List ℕ) (shear shear_x : List ℤ) (out : List ℕ) where
  pub archived_yes : 0 ≡ first_missed (level_questions sides (length out) shear shear_x (length level)) → Archived (record { sides = sides; shear = shear; shear_x = shear_x }) level × PageLong sides out
  archived_yes h =
      let yes = passed_yes sides shear shear_x (length out) (length level) (sym h) in
      (record { sheared = yes.sheared; level_long = yes.level_long }, yes.page_long)

  pub unlevel_refused : (e : Missed) → number_of e ≡ first_missed (level_questions sides (length out) shear shear_x (length level)) → Unlevel sides level shear shear_x out out (number_of e)
  unlevel_refused e n =
      record {
        number = n;
        refused = λ _. refl;
        answers = λ z. absurd (some_number e z);
        page_back = λ z. absurd (some_number e z);
        level_back = λ z. absurd (some_number e z);
        only_white = λ z. absurd (some_number e z);
      }

  pub unlevel_accepted : (out' : List ℕ) → 0 ≡ first_missed (level_questions sides (length out) shear shear_x (length level)) → out' ≡ unlevelled sides level shear shear_x → Unlevel sides level shear shear_x out out' 0
  unlevel_accepted out' n h =
      let given = (archived_yes n).0 in
      let sheared = given.sheared in
      record {
        number = n;
        refused = λ some. absurd (some refl);
        answers = λ _. h;
        page_back = λ _ gray long was. h ∙ ap (λ (l : List ℕ). unlevelled sides l shear shear_x) was ∙ Back.page_back sides shear shear_x sheared gray long;
        level_back = λ _ white. ap (λ (p : List ℕ). levelled sides p shear shear_x) h ∙ Back.level_back sides shear shear_x sheared level given.level_long white;
        only_white = λ _ same. Back.only_white sides shear shear_x sheared out' level same;
      }
