-- What the functions of `ink_bands` ask and leave; none of it is needed to read the contracts.
use Rattle.std.specs.Prelude.{◌≡◌, false, List, [], ◌∷◌, ℕ, ◌+◌, ◌≤◌, ◌<◌, Float}
use Rattle.rects.specs.declared.Rect.{Rect}
use Rattle.ink.specs.Ink.{Ink, column_ink}
use Rattle.ink.specs.Places.{over}

-- The ink in the columns i to i + 3.
abbrev pub FourColumns : Ink → Rect → ℕ → List ℕ → Type 0
FourColumns ink r i n = n ≡ column_ink ink r i ∷ column_ink ink r (i + 1) ∷ column_ink ink r (i + 2) ∷ column_ink ink r (i + 3) ∷ []

-- No column from `from` up to `to` is over the limit.
abbrev pub NoneOver : Ink → Rect → Float → ℕ → ℕ → Type 0
NoneOver ink r limit from to = (k : ℕ) → from ≤ k → k < to → over limit (column_ink ink r k) ≡ false
