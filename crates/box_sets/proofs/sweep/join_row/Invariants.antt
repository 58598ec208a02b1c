-- `sweep::join_row` meets its contract: each turn tries one pair more, and where it stops early nothing behind is near, or one of the same
-- width was tried, past which no pair is asked for. As long as every pair was found in one set, all places that were tried are one set.
use mathlib.Core.Path.{◌≡◌}
use mathlib.Core.Bool.{Bool, true}
use mathlib.Core.List.{List}
use Prim.Native.Nat.{ℕ, ◌<◌}
use Rattle.box_sets.specs.Steps.{SweptTo, OneSet}
use Rattle.box_sets.proofs.sweep.join_row.Given as goal

pub record Row (rects : List ℕ) (limit : ℕ) (order keys p : List ℕ) (k n : ℕ) (q : List ℕ) (whole : Bool) (l : ℕ) : Type 0 where
  pub later : k < l
  pub swept : SweptTo rects limit order keys p k l q
  pub one : whole ≡ true → OneSet order k l q

abbrev pub invariant-loop-l : goal.invariant-loop-l
invariant-loop-l l = Row l.rects l.limit l.order l.keys l.initial.parents l.k l.n l.parents l.whole l.l
