-- `rects::part_inside` meets its contract: whether those from the first up to k are inside.
use mathlib.Core.Path.{◌≡◌}
use mathlib.Core.Bool.{◌&&◌}
use Rattle.lists.specs.Lists.{every_below}
use Rattle.rects.specs.Rects.{inside, rect_at}
use Rattle.rects.proofs.part_inside.Given as goal

abbrev pub invariant-loop-k : goal.invariant-loop-k
invariant-loop-k l = every_below l.k (λ j. inside l.w l.h (rect_at l.rects j)) ≡ every_below l.from (λ j. inside l.w l.h (rect_at l.rects j)) && l.inside
