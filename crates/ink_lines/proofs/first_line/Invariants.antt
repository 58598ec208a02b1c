-- `lines::first_line` meets its contract: the first line over the limit from the one in hand on is the first of all.
use mathlib.Core.Path.{◌≡◌}
use mathlib.Core.Bool.{Bool}
use Prim.Native.Nat.{ℕ, ◌-◌}
use lib.Ieee.{Float}
use Rattle.rects.specs.declared.Rect.{Rect}
use Rattle.ink.specs.declared.Lines.{Lines}
use Rattle.ink.specs.Ink.{Mask, inked}
use Rattle.ink.specs.Steps.{line_ink}
use Rattle.ink.specs.Places.{over, first_from, first_place}
use Rattle.ink_lines.proofs.first_line.Given as goal

abbrev pub test : Mask → Rect → Lines → Float → ℕ → Bool
test m r lines limit k = over limit (line_ink (inked m) r lines k)

abbrev pub invariant-loop-k : goal.invariant-loop-k
invariant-loop-k l = first_from (test l.r.mask l.r.rect l.lines l.limit) l.k (l.n - l.k) ≡ first_place (test l.r.mask l.r.rect l.lines l.limit) l.n
