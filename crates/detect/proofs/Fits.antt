-- The room of the findings' lists, as it is counted from bundles of them, arrays of lent lists. No call has such an array any more.
use mathlib.Core.Path.{◌≡◌, refl, ◌∙◌}
use mathlib.Core.Bool.{Bool, ◌&&◌}
use mathlib.Core.List.{List, [], ◌∷◌, map}
use Prim.Native.Nat.{ℕ, zero, suc, ◌*◌}
use denote.Ref.{MutBor}
use lib.Dec.{leb}
use lib.Ieee.{Float}
use lib.ListN.{length, get_or}
use Rattle.lists.specs.Lists.{every_below}
use Rattle.page.proofs.Bundle.{list_at}

pub behind : {A : Type 0} (b : List (MutBor (List A))) (k : ℕ) → list_at k b ≡ get_or (map (λ x. x.now) b) k []
behind [] k = refl
behind (x ∷ b) zero = refl
behind (x ∷ b) (suc k) = behind b k

pub facts_are : (n x : ℕ) (b : List (MutBor (List ℕ))) {t : Bool}
    → t ≡ leb (4 * n) x && (leb n (length (list_at 0 b)) && leb n (length (list_at 1 b)) && leb n (length (list_at 2 b)) && leb n (length (list_at 3 b)))
    → t ≡ leb (4 * n) x && every_below 4 (λ k. leb n (length (get_or (map (λ x. x.now) b) k [])))
unfolding every_below
facts_are n x b e = e ∙ (λ i. leb (4 * n) x && (leb n (length (behind b 0 i)) && leb n (length (behind b 1 i)) && leb n (length (behind b 2 i)) && leb n (length (behind b 3 i))))

pub scores_are : (n : ℕ) (b : List (MutBor (List Float))) {t : Bool}
    → t ≡ leb n (length (list_at 0 b)) && leb n (length (list_at 1 b)) && leb n (length (list_at 2 b)) && leb n (length (list_at 3 b)) && leb n (length (list_at 4 b)) && leb n (length (list_at 5 b)) && leb n (length (list_at 6 b)) && leb n (length (list_at 7 b))
    → t ≡ every_below 8 (λ k. leb n (length (get_or (map (λ x. x.now) b) k [])))
unfolding every_below
scores_are n b e =
    e ∙ (λ i. leb n (length (behind b 0 i)) && leb n (length (behind b 1 i)) && leb n (length (behind b 2 i)) && leb n (length (behind b 3 i)) && leb n (length (behind b 4 i)) && leb n (length (behind b 5 i)) && leb n (length (behind b 6 i)) && leb n (length (behind b 7 i)))
