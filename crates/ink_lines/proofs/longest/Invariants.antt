-- `lines::longest` meets its contract: `run` is the run that ends at the line in hand, `best` the longest before it.
use mathlib.Core.Path.{◌≡◌}
use mathlib.Core.Bool.{Bool}
use Prim.Native.Nat.{ℕ}
use lib.Dec.{ltb}
use Rattle.rects.specs.declared.Rect.{Rect}
use Rattle.ink.specs.declared.Lines.{Lines}
use Rattle.ink.specs.Ink.{Mask, inked}
use Rattle.ink.specs.Steps.{line_ink}
use Rattle.ink.specs.Places.{run_before, longest_run}
use Rattle.ink_lines.proofs.longest.Given as goal

abbrev pub test : Mask → Rect → Lines → ℕ → Bool
test m r lines k = ltb 0 (line_ink (inked m) r lines k)

abbrev pub invariant-loop-k : goal.invariant-loop-k
invariant-loop-k l = (l.run ≡ run_before (test l.r.mask l.r.rect l.lines) l.k) × (l.best ≡ longest_run (test l.r.mask l.r.rect l.lines) l.k)
