-- `lines::last_line_end` meets its contract: the last line over the limit before the one in hand is the last of all.
use mathlib.Core.Path.{◌≡◌}
use mathlib.Core.Bool.{Bool}
use Prim.Native.Nat.{ℕ}
use lib.Ieee.{Float}
use Rattle.rects.specs.declared.Rect.{Rect}
use Rattle.ink.specs.declared.Lines.{Lines}
use Rattle.ink.specs.Ink.{Mask, inked}
use Rattle.ink.specs.Steps.{line_ink}
use Rattle.ink.specs.Places.{over, last_end}
use Rattle.ink_lines.proofs.last_line_end.Given as goal

abbrev pub test : Mask → Rect → Lines → Float → ℕ → Bool
test m r lines limit k = over limit (line_ink (inked m) r lines k)

abbrev pub invariant-loop-k : goal.invariant-loop-k
invariant-loop-k l = last_end (test l.r.mask l.r.rect l.lines l.limit) l.k ≡ last_end (test l.r.mask l.r.rect l.lines l.limit) l.end
