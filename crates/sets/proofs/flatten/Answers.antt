-- `sets::flatten` meets its contract: going up, a parent below i is a root already, and has the root of i.
use mathlib.Core.Path.{◌≡◌, sym, ◌∙◌}
use mathlib.Core.Logic.{⊎_elim}
use mathlib.Core.List.{List, map}
use Prim.Native.Nat.{ℕ, ◌≤◌, ◌+◌, ◌<◌}
use native.Mathlib.Nat.{eq-or-lt_of_le, le_refl}
use native.Mathlib.Omega.{arith}
use lib.ListN.{get_or, set}
use Rattle.lists.specs.Lists.{below, written}
use Rattle.lists.proofs.Keep.{length_values, get_d_values, values_more}
use Rattle.lists.proofs.Written.{written_at, written_past, written_more}
use Rattle.sets.specs.Steps.{Parents, root}
use Rattle.sets.proofs.Roots.{root_parent, root_stays}
use Rattle.sets.proofs.flatten.Goals.{In-loop-i}
use Rattle.sets.proofs.flatten.Goals as goal

module _ {n : ℕ} {p q : List ℕ} {i : ℕ} (P : Parents n p) (F : q ≡ written (map (root p) (below i)) p) (l : i < n) where
  parent : get_or q i 0 ≡ get_or p i 0
  parent = rw F (written_past (map (root p) (below i)) p i 0 (rw (length_values (root p) i) (le_refl i)))

  low : get_or q i 0 ≤ i
  low = rw parent (P.down i l)

  value : get_or q (get_or q i 0) 0 ≡ root p i
  value =
      ⊎_elim
      (λ (e : get_or p i 0 ≡ i). rw (parent, e, parent, e) (sym (root_stays P i e)))
      (λ (m : get_or p i 0 < i).
      rw (parent, F)
      (written_at (map (root p) (below i)) p (get_or p i 0) 0 (rw (length_values (root p) i) m) ∙ get_d_values (root p) i (get_or p i 0) 0 m
      ∙ root_parent P i l))
      (eq-or-lt_of_le (P.down i l))

  turn : set q i (get_or q (get_or q i 0) 0) ≡ written (map (root p) (below (i + 1))) p
  turn = rw value (written_more (map (root p) (below i)) p (root p i) F (length_values (root p) i) (omega (arith, P.room)) (values_more (root p) i))

low-at : (c : In-loop-i) → get_or c.loop-i.parents c.loop-i.i 0 ≤ c.loop-i.i
low-at c = low c.requires c.loop-i.invariant c.loop-i-test.true

pub bounds-parents-up : goal.bounds-parents-up
bounds-parents-up c = omega (arith, low-at (goal.at.bounds-parents-up c).In-loop-i)

pub loop-i-preserved : goal.loop-i-preserved
loop-i-preserved c = turn c.requires c.loop-i.invariant c.loop-i-test.true
