-- One ruling and two: what the questions give of each, and that touching goes both ways.
use mathlib.Core.Path.{◌≡◌, refl, ap, ◌∙◌, subst}
use mathlib.Core.Bool.{Bool, true, false, cond, not, ◌&&◌}
use mathlib.Core.List.{List}
use Prim.Native.Nat.{ℕ, ◌<◌}
use lib.ListN.{length, get_or}
use Rattle.lists.proofs.Keep.{at_in}
use Rattle.meeting.specs.declared.segment.Segment.{Segment}
use Rattle.meeting.specs.Chosen.{Rulings}
use Rattle.meeting.specs.Segments.{opposite, span_holds, touches}
use Rattle.meeting.specs.Steps.{Given, IndexesBelow}

-- the member at a place of a set
pub member_within : {n : ℕ} (set : List ℕ) → IndexesBelow n set → (k : ℕ) → k < length set → get_or set k 0 < n
member_within set I k l = I.within (get_or set k 0) (at_in set k l)

swapped : (o p q : Bool) → o && p && q ≡ o && q && p
swapped false p q = refl
swapped true true true = refl
swapped true true false = refl
swapped true false true = refl
swapped true false false = refl

either_way : (x y : Bool) → cond x (not y) y ≡ cond y (not x) x
either_way true true = refl
either_way true false = refl
either_way false true = refl
either_way false false = refl

pub touches_comm : (join : ℕ) (a b : Segment) → touches join a b ≡ touches join b a
unfolding touches
touches_comm join a b =
    swapped (opposite a b) (span_holds join a b.centre2) (span_holds join b a.centre2)
    ∙ ap (λ (o : Bool). o && span_holds join b a.centre2 && span_holds join a b.centre2) (either_way a.horizontal b.horizontal)

-- what the rulings keep, said of their lists
pub given_of : {v r : Rulings} → v ≡ r → Given v.rects v.directions v.chosen → Given r.rects r.directions r.chosen
given_of e G = subst (λ (r : Rulings). Given r.rects r.directions r.chosen) e G
