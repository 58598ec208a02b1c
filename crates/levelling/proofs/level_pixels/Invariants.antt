-- `levelling::level_pixels` meets its contract: every place below k shows its own column.
use mathlib.Core.Path.{◌≡◌}
use mathlib.Core.List.{List}
use Prim.Native.Nat.{ℕ, ◌+◌, ◌<◌}
use lib.ListN.{length, get_or}
use Rattle.layout.specs.Level.{page_shows}
use Rattle.levelling.proofs.level_pixels.Given as goal

-- the first k places of a part show f
pub record Front (f : ℕ → ℕ → ℕ) (from y : ℕ) (out : List ℕ) (k : ℕ) : Type 0 where
  pub shows : (i : ℕ) → i < k → i < length out → get_or out i 0 ≡ f (from + i) y

abbrev pub invariant-loop-k : goal.invariant-loop-k
invariant-loop-k l = Front (page_shows l.shears.sides l.gray l.shears.shear.now) l.from l.y l.out l.k
