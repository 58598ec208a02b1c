-- `find` meets its contract: the boxes of the glyph boxes before place k are written.
use mathlib.Core.Path.{◌≡◌}
use mathlib.Core.Bool.{true}
use Prim.Native.Nat.{ℕ, ◌-◌, ◌/◌, ◌≤◌, ◌<◌}
use lib.Ieee.{Float, lt}
use lib.ListN.{length}
use Rattle.math.specs.Sum.{whole}
use Rattle.box_lists.specs.Steps.{lists_of, Same}
use Rattle.box_lists.proofs.Listing.{Finding}
use Rattle.box_lists.proofs.find.Given as goal

-- what a number says that every side below it is below a float
abbrev pub Below : ℕ → Float → Type 0
Below least x = (n : ℕ) → n ≤ 8192 → n < least → lt (whole n) x ≡ true

abbrev pub invariant-loop-k : goal.invariant-loop-k
invariant-loop-k l =
    (Below l.least l.l.min_size) × Finding l.mask.bytes l.mask.w l.glyphs l.l (lists_of l.initial.lists) (lists_of l.lists) l.n l.k × Same l.initial.lists l.lists

abbrev pub decreases-loop-k : goal.decreases-loop-k
decreases-loop-k l = length l.glyphs / 4 - l.k
