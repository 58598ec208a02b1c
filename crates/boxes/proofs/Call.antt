-- What an accepted call promises, from what its core leaves.
use mathlib.Core.Path.{◌≡◌, refl, subst}
use Prim.Native.Nat.{ℕ}
use Rattle.questions.specs.Questions.{first_missed}
use Rattle.ink.specs.Ink.{ink_at}
use Rattle.glyph_tests.specs.declared.limits.Limits.{Limits}
use Rattle.glyph_tests.specs.Limits.{box_limits_of}
use Rattle.boxes.specs.Call.{Given, Lent, questions, Boxes}
use Rattle.box_lists.specs.Steps.{Made}
use Rattle.box_lists.proofs.EveryBox.{every_box}

module _ (g : Given) (l : Lent) (none : 0 ≡ first_missed (questions g l)) where
  pub accepted : {lim : Limits} (l' : Lent) {n : ℕ} → lim ≡ box_limits_of g.dpi g.xheight g.settings
      → Made g.ink g.w g.glyphs lim l l' n
      → Boxes g l l' (record { number = 0; count = n })
  accepted l' {n} e L =
      let M = subst (λ (k : Limits). Made g.ink g.w g.glyphs k l l' n) e L in
      record {
        number = none;
        counts = λ i. record { number = 0; count = M.count i };
        refused = λ r. absurd (r refl);
        answers = λ _. record { rects = M.rects; marks = M.marks; coverages = M.coverages };
        demand3 = λ _. every_box (ink_at g.w g.ink) (box_limits_of g.dpi g.xheight g.settings) g.glyphs;
      }
