-- `bands::four_columns` meets its contract: after j turns each number is the ink of the first j places of its column.
use mathlib.Core.Path.{◌≡◌}
use Prim.Native.Nat.{ℕ, ◌+◌}
use Rattle.ink.specs.Ink.{Ink, inked, many}
use Rattle.ink_bands.proofs.four_columns.Given as goal

-- the first j places of column x from row y on have n ink
abbrev pub Tally : Ink → ℕ → ℕ → ℕ → ℕ → Type 0
Tally ink x y j n = n ≡ many (λ k. ink x (y + k)) j

abbrev pub invariant-loop-j : goal.invariant-loop-j
invariant-loop-j l =
    Tally (inked l.mask) l.x l.y l.j l.a × Tally (inked l.mask) (l.x + 1) l.y l.j l.b × Tally (inked l.mask) (l.x + 2) l.y l.j l.c × Tally (inked l.mask) (l.x + 3) l.y l.j l.d
