-- `facts::around_set` meets its contract. The invariant: r, with the rectangles of the members that are left, makes the whole.
use mathlib.Core.Path.{◌≡◌}
use Prim.Native.Nat.{◌+◌}
use lib.ListN.{drop}
use Rattle.rects.specs.Around.{unioned, around}
use Rattle.table_lists.specs.Answers.{places_of}
use Rattle.table_lists.proofs.facts.around_set.Given as goal

abbrev pub invariant-loop-i : goal.invariant-loop-i
invariant-loop-i l = unioned l.rulings.rects l.r (drop (l.i-index + 1) (places_of l.rulings.chosen l.set)) ≡ around l.rulings.rects (places_of l.rulings.chosen l.set)
