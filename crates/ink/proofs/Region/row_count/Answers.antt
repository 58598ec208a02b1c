-- `Region::row_count` meets its contract: the part of the mask holds the row's places and no others.
use mathlib.Core.Path.{refl, ◌∙◌}
use native.Mathlib.Omega.{arith}
use Rattle.ink.proofs.Counts.{row_in_mask, span_long}
use Rattle.ink.proofs.Region.row_count.Goals as goal

pub returns : goal.returns
returns c =
    let r = c.self.inside.rect in
    let inside = rw (← c.self.view_is) at c.requires in
    let R = rw (← c.mask.view_is) at c.self.invariant in
    rw (← c.self.view_is, ← c.mask.view_is) (c.count_ink.ensures ∙ span_long (record { bytes = c.mask.inside.bytes.now; w = c.mask.inside.w }) r c.args.j (omega (arith, row_in_mask _ r R c.args.j inside, R.wide, c.width.ensures)) refl c.width.ensures refl)
