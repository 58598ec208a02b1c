-- Why a call that lists sets answers as it should: accepted, from the listing; refused, since nothing happened.
use mathlib.Core.Path.{◌≡◌, refl, sym, ap, ◌∙◌}
use mathlib.Core.Bool.{Bool, true, false, true≢false}
use mathlib.Core.List.{List}
use Prim.Native.Nat.{ℕ}
use lib.ListN.{length}
use Rattle.lists.specs.Lists.{concat, written}
use Rattle.sets.specs.Listing.{ends_from}
use Rattle.sets.specs.Steps.{Listing, classes, root}
use Rattle.gaps.specs.Answers.{Answered}

pub accepted : {fits : Bool} {n : ℕ} {ss : List (List ℕ)} {p m e w q q' m' e' w' : List ℕ} {k : ℕ} → fits ≡ true → classes n (root q) ≡ ss → Listing n q m e q' m' e' k
    → Answered fits ss p m e w q' m' e' w' 0 k
accepted {m = m} {e = e} t same L =
    record {
      number = rw t;
      count = rw t (L.count ∙ ap length same);
      members = rw t (L.members ∙ ap (λ ss. written (concat ss) m) same);
      ends = rw t (L.ends ∙ ap (λ ss. written (ends_from 0 ss) e) same);
      parents_kept = λ f. absurd (true≢false (sym t ∙ f));
      work_kept = λ f. absurd (true≢false (sym t ∙ f));
    }

pub refused : {fits : Bool} {ss : List (List ℕ)} {p m e w : List ℕ} → fits ≡ false → Answered fits ss p m e w p m e w 1 0
refused t = record { number = rw t; count = rw t; members = rw t; ends = rw t; parents_kept = λ f. refl; work_kept = λ f. refl }
