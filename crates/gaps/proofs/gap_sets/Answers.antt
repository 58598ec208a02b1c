-- `gaps::gap_sets` meets its contract: with room, all pairs are joined and the roots listed; without, nothing happens.
use mathlib.Core.Path.{◌≡◌, sym, ◌∙◌}
use mathlib.Core.Bool.{Bool, true, false}
use mathlib.Core.List.{List}
use Prim.Native.Nat.{ℕ}
use lib.ListN.{length}
use Rattle.sets.specs.Closed.{Below}
use Rattle.sets.specs.Steps.{Joins, Listing}
use Rattle.gaps.proofs.Answers.{accepted, refused}
use Rattle.sets.proofs.Grown.{closed_sets_listed}
use Rattle.sets.proofs.Listings.{joins_closed_sets}
use Rattle.gaps.specs.Gaps.{touch, Touch, GapSets}
use Rattle.gaps.proofs.gap_sets.Goals as goal

answered : {values : List ℕ} {gap : ℕ} {fits : Bool} {p m e w q q' m' e' w' : List ℕ} {r : ℕ} → fits ≡ true
    → Joins (length values) (Below (length values)) (Touch values gap) q → Listing (length values) q m e q' m' e' r
    → GapSets values gap fits p m e w q' m' e' w' 0 r
answered {values} {gap} t J L = record { answered = accepted t (joins_closed_sets (touch values gap) J) L; listed = closed_sets_listed (length values) (touch values gap) }

turned_down : {values : List ℕ} {gap : ℕ} {fits : Bool} {p m e w : List ℕ} → fits ≡ false → GapSets values gap fits p m e w p m e w 1 0
turned_down {values} {gap} t = record { answered = refused t; listed = closed_sets_listed (length values) (touch values gap) }

pub returns-then-fits : goal.returns-then-fits
returns-then-fits c =
    answered (sym c.room-fits.ensures ∙ c.if-fits.true) c.join_all.ensures
    c.list-count.ensures

pub returns : goal.returns
returns c = turned_down (sym c.room-fits.ensures ∙ c.if-fits.false)
