-- `grid_findings::finding` meets its contract: the rectangle is the smallest around the set's boxes, and the set has at most 16,384 of
-- them, so that each count fits 32 bits.
use mathlib.Core.Path.{refl}
use mathlib.Core.Bool.{Bool}
use mathlib.Core.List.{List}
use Prim.Native.Nat.{ℕ, ◌≤◌, ◌<◌, ◌^◌}
use native.Mathlib.Omega.{arith}
use lib.ListN.{length}
use Rattle.lists.specs.Lists.{keep}
use Rattle.lists.proofs.Sizes.{keep_size_le}
use Rattle.findings.specs.Made.{grid_of}
use Rattle.findings.proofs.Given.{rects_given}
use Rattle.grid_findings.proofs.finding.Goals as goal

few_kept : (q : ℕ → Bool) (set : List ℕ) → length set ≤ 16384 → length (keep q set) < 2 ^ 32
few_kept q set few = let l = keep_size_le q set in omega arith

pub around-bbox-requires : goal.around-bbox-requires
around-bbox-requires c = let G = rw (← c.boxes.view_is) at c.requires in rects_given G.0 G.1

pub overflow_cast-ticked : goal.overflow_cast-ticked
overflow_cast-ticked c =
    record { fits = rw c.count_equal-ticked.ensures (few_kept _ c.args.set.now c.requires.1.given.entries.few) }

pub returns : goal.returns
unfolding grid_of
returns c =
    rw (c.grid_finding.ensures, c.around-bbox.ensures.place, c.count_equal-ticked.ensures, c.mean-mean.ensures, ← c.scan.view_is, ← c.boxes.view_is) refl
