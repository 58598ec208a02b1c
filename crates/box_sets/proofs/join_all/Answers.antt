-- `join_all` meets its contract: boxes that touch are near in one of the two sweeps, and each sweep keeps what was joined before it.
use mathlib.Core.Path.{◌≡◌, ◌∙◌}
use mathlib.Core.List.{List}
use Prim.Native.Nat.{ℕ}
use Rattle.lists.specs.Lists.{below, written}
use Rattle.rects.specs.Rects.{count}
use Rattle.sets.specs.Closed.{Below}
use Rattle.sets.specs.Steps.{Room}
use Rattle.sets.proofs.Sweeps.{between_begin}
use Rattle.box_sets.specs.Boxes.{Touch}
use Rattle.box_sets.specs.Steps.{JoinedSo}
use Rattle.box_sets.proofs.Sweeps.{both_sweeps}
use Rattle.box_sets.proofs.join_all.Goals as goal

none_joined : (rects : List ℕ) (limit : ℕ) {p q : List ℕ} → Room (count rects) p → q ≡ written (below (count rects)) p → JoinedSo rects limit (λ i j. ⊥) q
none_joined rects limit R e = rw e (between_begin (Below (count rects)) (Touch rects limit) R (λ i l. l))

pub join_near-requires : goal.join_near-requires
join_near-requires c =
    (c.requires.0, c.requires.1, c.requires.3, none_joined c.args.rects.now c.args.limit c.requires.2 c.begin.ensures)

pub returns : goal.returns
returns c = (both_sweeps c.join_near.ensures.0 c.join_near-2.ensures.0, c.join_near-2.ensures.1 ∙ c.join_near.ensures.1)
