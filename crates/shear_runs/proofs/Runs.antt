-- Runs of columns that have one entry, and the frame that tables which pass their questions give.
use mathlib.Core.Path.{◌≡◌, ap, ◌∙◌}
use mathlib.Core.List.{List}
use mathlib.Core.Logic.{⊎_elim}
use Prim.Native.Nat.{ℕ, ◌+◌, ◌≤◌, ◌<◌}
use native.Mathlib.Nat.{eq-or-lt_of_le}
use native.Mathlib.Omega.{arith}
use lib.IntN.{ℤ}
use lib.ListN.{length}
use Rattle.layout.specs.declared.sides.Sides.{Sides}
use Rattle.layout.specs.Tables.{entry}
use Rattle.layout.specs.Steps.{Sheared}
use Rattle.shear_runs.specs.Steps.{Run, Frame}

-- a run of one column, and of one more
pub run_one : (table : List ℤ) (from : ℕ) → from < length table → Run table from (from + 1)
run_one table from h =
    record { more = omega arith; within = omega arith; same = λ i l m. ap (entry table) (omega arith) }

pub run_more : (table : List ℤ) (from i : ℕ) → Run table from i → i < length table → entry table i ≡ entry table from → Run table from (i + 1)
run_more table from i r h e = record { more = omega (arith, r.more); within = omega arith; same = at }
  where
    at : (j : ℕ) → from ≤ j → j < i + 1 → entry table j ≡ entry table from
    at j l m = ⊎_elim (λ (q : j ≡ i). ap (entry table) q ∙ e) (λ (q : j < i). r.same j l q) (eq-or-lt_of_le (omega arith))

pub sheared_frame : {sides : Sides} {shear shear_x : List ℤ} → Sheared sides shear shear_x → Frame sides shear_x
sheared_frame s = record { page_wide = s.page_wide; wide = s.wide; high = s.high; rows = s.rows }
