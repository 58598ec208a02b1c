-- Flattened parents: each entry is the root of its index, and so the smallest index of its closed set.
use mathlib.Core.Path.{◌≡◌, sym, ap, ◌∙◌}
use mathlib.Core.List.{List, map}
use Prim.Native.Nat.{ℕ, ◌<◌}
use native.Mathlib.Nat.{lt_of_le_of_lt}
use lib.ListN.{get_or}
use Rattle.lists.specs.Lists.{below, written}
use Rattle.lists.proofs.Keep.{length_values, get_d_values}
use Rattle.lists.proofs.Written.{written_length, written_at}
use Rattle.sets.specs.Steps.{LeastOf, Joins, Parents, root, entry, Flat}
use Rattle.sets.proofs.Represents.{represents_smallest}
use Rattle.sets.proofs.Roots.{root_le, root_root}

module _ {n : ℕ} {p q : List ℕ} (P : Parents n p) (e : q ≡ written (map (root p) (below n)) p) where
  pub label : (i : ℕ) → i < n → get_or q i 0 ≡ root p i
  label i l = rw e (written_at (map (root p) (below n)) p i 0 (rw (length_values (root p) n) l) ∙ get_d_values (root p) n i 0 l)

  pub flattened : Flat n q
  flattened =
      record {
        room = rw e (rw (written_length (map (root p) (below n)) p (rw (length_values (root p) n) P.room)) P.room);
        small = P.small;
        low = λ i l. rw (label i l) (root_le P i l);
        fixed = λ i l. ap (entry q) (label i l) ∙ label (root p i) (lt_of_le_of_lt (root_le P i l) l) ∙ root_root P i l ∙ sym (label i l);
      }

-- after flattening, each entry is the smallest index of its closed set
pub label_smallest : {n : ℕ} {D : ℕ → Type 0} {R : ℕ → ℕ → Type 0} {p q : List ℕ} → Joins n D R p → q ≡ written (map (root p) (below n)) p
    → (i : ℕ) → D i → LeastOf D R i (get_or q i 0)
label_smallest J e i d = rw (label J.parents e i (J.inside i d)) (represents_smallest J.roots i d)
