-- `fold_findings::inches` meets its contract: the ruling's length along its direction, divided by the dpi.
use mathlib.Core.Path.{ap, ◌∙◌}
use Prim.Native.Nat.{ℕ}
use Rattle.rects.specs.declared.Rect.{Rect}
use Rattle.evidence.specs.Kinds.{inches_of}
use Rattle.findings.specs.Made.{lying, length_of}
use Rattle.fold_findings.proofs.inches.Goals as goal

pub length_of-length-requires : goal.length_of-length-requires
length_of-length-requires c = rw c.rect_at.ensures c.requires.1

pub returns : goal.returns
returns c =
    let a = c.args in
    c.inches.ensures
    ∙ ap (λ (n : ℕ). inches_of n a.dpi) (c.length_of-length.ensures ∙ ap (λ (r : Rect). length_of r (lying a.directions.now a.place)) c.rect_at.ensures)
