-- `sets::find` meets its contract: every turn halves the path and keeps every root, and stands at an index with the root that is looked for.
use mathlib.Core.Path.{◌≡◌}
use mathlib.Core.List.{List}
use Prim.Native.Nat.{ℕ, ◌<◌}
use lib.ListN.{length, get_or}
use Rattle.sets.specs.Steps.{root, SameRoots}
use Rattle.sets.proofs.find.Given as goal

pub record Climbing (n : ℕ) (p : List ℕ) (index : ℕ) (q : List ℕ) (i up : ℕ) : Type 0 where
  pub same : SameRoots n p q
  pub inside : i < n
  pub parent : up ≡ get_or q i 0
  pub on_way : root p i ≡ root p index
  pub long : length q ≡ length p

abbrev pub invariant-loop-up : goal.invariant-loop-up
invariant-loop-up l = Climbing l.n l.initial.parents l.index l.parents l.i l.up

abbrev pub decreases-loop-up : goal.decreases-loop-up
decreases-loop-up l = l.i
