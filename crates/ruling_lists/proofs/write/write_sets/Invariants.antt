-- `write::write_sets` meets its contract: one set more a turn.
use mathlib.Core.Path.{◌≡◌}
use mathlib.Core.List.{List, map}
use Prim.Native.Nat.{ℕ}
use lib.ListN.{get_or}
use Rattle.lists.specs.Lists.{below, concat, written}
use Rattle.sets.specs.Listing.{ends_from}
use Rattle.listings.specs.Listed.{set_of}
use Rattle.lists.proofs.Runs.{total}
use Rattle.ruling_lists.proofs.write.write_sets.Given as goal

-- the set that goes to place k
abbrev pub nth : (ℕ → List ℕ) → List ℕ → ℕ → List ℕ
nth f order k = f (get_or order k 0)

pub record Strings (f : ℕ → List ℕ) (order ms₀ es₀ ms es : List ℕ) (at k : ℕ) : Type 0 where
  pub place : at ≡ total (nth f order) k
  pub members : ms ≡ written (concat (map (nth f order) (below k))) ms₀
  pub ends : es ≡ written (ends_from 0 (map (nth f order) (below k))) es₀

abbrev pub invariant-loop-place : goal.invariant-loop-place
invariant-loop-place l = Strings (set_of l.sets) l.order l.initial.members l.initial.ends l.members l.ends l.at l.place
