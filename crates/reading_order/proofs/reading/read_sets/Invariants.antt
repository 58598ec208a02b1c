-- `reading::read_sets` meets its contract: one set more a turn, in the places of its members.
use mathlib.Core.Path.{◌≡◌}
use mathlib.Core.List.{List, map}
use Prim.Native.Nat.{ℕ}
use Rattle.lists.specs.Lists.{below, concat, written}
use Rattle.listings.specs.Listed.{set_of}
use Rattle.reading_order.specs.Reading.{reading_order}
use Rattle.lists.proofs.Runs.{total}
use Rattle.reading_order.proofs.reading.read_sets.Given as goal

-- the reading order of set k
abbrev pub read : List ℕ → (ℕ → List ℕ) → ℕ → List ℕ
read rects f k = reading_order rects (f k)

pub record Progress (rects : List ℕ) (f : ℕ → List ℕ) (re re' : List ℕ) (at k : ℕ) : Type 0 where
  pub place : at ≡ total f k
  pub content : re' ≡ written (concat (map (read rects f) (below k))) re

abbrev pub invariant-loop-k : goal.invariant-loop-k
invariant-loop-k l = Progress l.rects (set_of l.sets) l.initial.reading l.reading l.at l.k
