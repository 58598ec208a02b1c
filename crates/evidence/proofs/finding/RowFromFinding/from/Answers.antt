-- A row made from a finding meets its contract, kind by kind.
use mathlib.Core.Path.{◌≡◌, refl, sym, ap, ◌∙◌}
use mathlib.Core.Bool.{Bool, true, false}
use mir.Val.{bool_byte}
use Prim.Native.Nat.{ℕ}
use lib.Ieee.{Float}
use Rattle.evidence.specs.declared.finding.Finding.{Finding}
use Rattle.evidence.specs.declared.finding.Row.{Row}
use Rattle.evidence.specs.Finding.{fold_number, row_with, no_evidence}
use Rattle.evidence.proofs.finding.RowFromFinding.from.Goals as goal

-- the row of a fold, its direction as a number
abbrev fold_row : Finding → ℕ → Float → Row
fold_row f d x =
    record { bbox = f.bbox; kind = 19; a = d; b = 0; c = 0; log_odds = f.log_odds; first = f.first; second = no_evidence; length = x }

-- a direction as a number
as_number : (vertical : Bool) → bool_byte vertical ≡ fold_number vertical
as_number true = refl
as_number false = refl

pub returns-in-Table : goal.returns-in-Table
returns-in-Table c = rw c.number.ensures (ap (row_with c.args.f) (sym c.in-Table.is))

pub returns-in-FreeRules : goal.returns-in-FreeRules
returns-in-FreeRules c = rw c.number-in-FreeRules.ensures (ap (row_with c.args.f) (sym c.in-FreeRules.is))

pub returns-in-Grid : goal.returns-in-Grid
returns-in-Grid c = rw c.number-in-Grid.ensures (ap (row_with c.args.f) (sym c.in-Grid.is))

pub returns-in-Fold : goal.returns-in-Fold
returns-in-Fold c =
    let f = c.args.f in
    rw c.number-in-Fold.ensures (ap (λ (d : ℕ). fold_row f d c.in-Fold.length) (c.from.ensures ∙ as_number c.in-Fold.vertical) ∙ ap (row_with f) (sym c.in-Fold.is))
