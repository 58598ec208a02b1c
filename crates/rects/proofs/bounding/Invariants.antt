-- `rects::bounding` meets its contract. The invariant: r, with the rectangles at the places that are left, makes the whole.
use mathlib.Core.Path.{◌≡◌}
use lib.ListN.{drop}
use Rattle.rects.specs.Around.{unioned, around}
use Rattle.rects.proofs.bounding.Given as goal

abbrev pub invariant-loop-place : goal.invariant-loop-place
invariant-loop-place l = unioned l.rects l.r (drop l.place-index l.place-items) ≡ around l.rects l.places
