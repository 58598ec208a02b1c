-- `shape::collect` meets its contract: after k turns the positions of the first k members that have the direction stand in front.
use mathlib.Core.Path.{◌≡◌, ap, ◌∙◌}
use mathlib.Core.Bool.{Bool}
use mathlib.Core.List.{List}
use Prim.Native.Nat.{ℕ, ◌+◌, ◌/◌, ◌≤◌, ◌<◌}
use Rattle.std.specs.Int.{from_bool}
use lib.ListN.{length, get_or, set}
use Rattle.meeting.specs.declared.segment.Segment.{Segment}
use Rattle.meeting.specs.Segments.{ruling}
use Rattle.shapes.specs.Shapes.{in_direction}
use Rattle.meeting.proofs.Collecting.{Gathering, gather_turn}
use Rattle.shapes.proofs.shape.collect.Given as goal

module _ (h : Bool) (s : ℕ → Segment) (members : List ℕ) where
  abbrev pub Walk : List ℕ → ℕ → ℕ → Type 0
  Walk = Gathering (λ i. in_direction h (s i)) (λ i. (s i).centre2 / 2) members

  pub turn : {l : List ℕ} {n k : ℕ} {b : Bool} {a : Segment} → Walk l n k → k < length members → length members ≤ length l → a ≡ s (get_or members k 0)
      → b ≡ in_direction h a → Walk (set l n (a.centre2 / 2)) (n + from_bool b) (k + 1)
  turn {b = b} W l room e f =
      gather_turn (λ i. in_direction h (s i)) (λ i. (s i).centre2 / 2) members b W l room (ap (λ (x : Segment). x.centre2 / 2) e)
      (f ∙ ap (in_direction h) e)

abbrev pub invariant-loop-i : goal.invariant-loop-i
invariant-loop-i l = Walk l.horizontal (ruling l.rulings) l.set l.keys l.n l.i-index
