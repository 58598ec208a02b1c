-- `edges::edge_coverage` meets its contract: the least of the shares of its four bands is its coverage.
use Rattle.std.proofs.Common.{◌≡◌, ap, ◌∙◌}
use lib.Ieee.{Float}
use Rattle.rects.specs.declared.Rect.{Rect}
use Rattle.ink.specs.declared.Lines.{Lines}
use Rattle.ink.specs.declared.Lines.TheVariants.{Rows, Columns}
use Rattle.ink.specs.Ink.{Mask, Region, inked}
use Rattle.glyph_tests.specs.Steps.{line_share}
use Rattle.glyph_tests.proofs.Bands.{edges_are}
use Rattle.glyph_tests.proofs.edges.edge_coverage.Goals as goal

-- the share of a part of the frame that is the band q
along : (m : Mask) (lines : Lines) {p : Region} {r q : Rect} {x : Float} → p ≡ record { mask = m; rect = r } → r ≡ q → x ≡ line_share (inked p.mask) p.rect lines → x ≡ line_share (inked m) q lines
along m lines e f g = g ∙ ap (λ (p : Region). line_share (inked p.mask) p.rect lines) e ∙ ap (λ (r : Rect). line_share (inked m) r lines) f

pub returns : goal.returns
returns c =
    let s = c.frame.inside in
    let m = s.mask.now in
    rw (← c.frame.view_is)
    (edges_are (inked m) s.rect c.args.tol c.frame.invariant.wide c.frame.invariant.high
    (along m Columns (rw (← c.frame.view_is) at c.part.ensures) c.top_band.ensures c.share-top.ensures)
    (along m Columns (rw (← c.frame.view_is) at c.part-2.ensures) c.bottom_band.ensures c.share-bottom.ensures)
    (along m Rows (rw (← c.frame.view_is) at c.part-3.ensures) c.left_band.ensures c.share-left.ensures)
    (along m Rows (rw (← c.frame.view_is) at c.part-4.ensures) c.right_band.ensures c.share-right.ensures)
    c.min.ensures c.min-2.ensures c.min-3.ensures)
