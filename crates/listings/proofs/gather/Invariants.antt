-- `listings::gather` meets its contract: what is written, with the rest of the trail from i on, is the whole trail.
use mathlib.Core.Path.{◌≡◌}
use mathlib.Core.List.{List}
use Prim.Native.Nat.{ℕ, ◌+◌, ◌-◌, ◌≤◌, ◌<◌}
use lib.ListN.{length}
use lib.Seq.{sets}
use Rattle.sets.specs.Steps.{Trail}
use Rattle.listings.proofs.gather.Given as goal

pub record Walking (next : List ℕ) (n : ℕ) (members₀ : List ℕ) (root at : ℕ) (members : List ℕ) (i end : ℕ) : Type 0 where
  pub inside : i < n
  pub rest : List ℕ
  pub trail : Trail next i rest
  pub fits : end + length rest ≤ length members
  pub long : length members ≡ length members₀
  pub whole : (t : List ℕ) → Trail next root t → (sets members end rest ≡ sets members₀ at t) × (end + length rest ≡ at + length t)

abbrev pub invariant-loop-i : goal.invariant-loop-i
invariant-loop-i l = Walking l.next l.n l.initial.members l.root l.at l.members l.i l.end

abbrev pub decreases-loop-i : goal.decreases-loop-i
decreases-loop-i l = l.n - l.i
