-- `listings::gather_all` meets its contract: the classes with a root below i are listed, and the thread of the root i is its class.
use mathlib.Core.Path.{◌≡◌}
use mathlib.Core.List.{List}
use Prim.Native.Nat.{ℕ}
use lib.ListN.{length}
use Rattle.lists.specs.Lists.{concat, written}
use Rattle.sets.specs.Listing.{ends_from}
use Rattle.sets.specs.Steps.{entry}
use Rattle.sets.proofs.Sizes.{classes_to}
use Rattle.listings.proofs.gather_all.Given as goal

-- the listing of the classes ss
pub record Partial (ss : List (List ℕ)) (m₀ e₀ m e : List ℕ) (at count : ℕ) : Type 0 where
  pub place : at ≡ length (concat ss)
  pub number : count ≡ length ss
  pub members : m ≡ written (concat ss) m₀
  pub ends : e ≡ written (ends_from 0 ss) e₀

abbrev pub invariant-loop-root : goal.invariant-loop-root
invariant-loop-root l = Partial (classes_to l.n (entry l.parents) l.root) l.initial.members l.initial.ends l.members l.ends l.at l.count
