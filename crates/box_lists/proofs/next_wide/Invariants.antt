-- `next_wide` meets its contract: every glyph box from `from` up to k is narrower.
use mathlib.Core.List.{List}
use Prim.Native.Nat.{ℕ, ◌-◌, ◌≤◌, ◌<◌}
use Rattle.rects.specs.Rects.{count, rect_at, width_of}
use Rattle.box_lists.proofs.next_wide.Given as goal

pub record Passed (glyphs : List ℕ) (least from k : ℕ) : Type 0 where
  pub later : from ≤ k
  pub up_to : k ≤ count glyphs
  pub narrow : (j : ℕ) → from ≤ j → j < k → width_of (rect_at glyphs j) < least

abbrev pub invariant-loop-k : goal.invariant-loop-k
invariant-loop-k l = Passed l.glyphs l.least l.from l.k

abbrev pub decreases-loop-k : goal.decreases-loop-k
decreases-loop-k l = l.n - l.k
