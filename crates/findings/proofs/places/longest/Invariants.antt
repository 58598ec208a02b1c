-- `places::longest` meets its contract. The invariant: the longest of the first i.
use mathlib.Core.Path.{◌≡◌}
use mathlib.Core.List.{List, map}
use Prim.Native.Nat.{ℕ}
use lib.ListN.{take}
use Rattle.findings.specs.Made.{length_at, greatest_of}
use Rattle.findings.proofs.places.longest.Given as goal

pub record Progress (rects directions places : List ℕ) (longest i : ℕ) : Type 0 where
  pub greatest : longest ≡ greatest_of (map (length_at rects directions) (take i places))

abbrev pub invariant-loop-place : goal.invariant-loop-place
invariant-loop-place l = Progress l.rects l.directions l.places l.longest l.place-index
