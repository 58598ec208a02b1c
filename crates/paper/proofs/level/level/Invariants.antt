-- `paper::level::level` meets its contract: `at_least` is the number of samples of at least v, and fewer than half are larger.
use mathlib.Core.Path.{◌≡◌}
use Prim.Native.Nat.{ℕ, ◌+◌, ◌≤◌, ◌<◌}
use mathlib.Core.List.{List}
use mathlib.Core.Logic.{◌⊎◌}
use lib.Dec.{leb}
use lib.ListN.{length}
use Rattle.paper.specs.Steps.{many, Tallied}
use Rattle.paper.proofs.level.level.Given as goal

-- what the counts say of any samples that have them
abbrev pub Down : List ℕ → ℕ → ℕ → ℕ → ℕ → Type 0
Down counts n half v at_least = (xs : List ℕ) → length xs ≡ n → Tallied xs counts → (at_least ≡ many (leb v) xs) × ((v ≡ 255) ⊎ (many (leb (v + 1)) xs < half))

abbrev pub invariant-loop-at_least : goal.invariant-loop-at_least
invariant-loop-at_least l = (l.v ≤ 255) × Down l.counts l.n l.half l.v l.at_least

abbrev pub decreases-loop-at_least : goal.decreases-loop-at_least
decreases-loop-at_least l = l.v
