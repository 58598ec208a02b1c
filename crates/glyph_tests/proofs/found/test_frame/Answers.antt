-- `found::test_frame` meets its contract: each way out is the test that it follows.
use Rattle.std.proofs.Common.{ap, refl}
use Rattle.ink.specs.Ink.{Region, inked}
use Rattle.glyph_tests.proofs.Tests.{size_says, aspect_says, by_size, by_aspect, by_edges, by_ink, is_box}
use Rattle.glyph_tests.proofs.found.test_frame.Goals as goal

pub returns-then-size_missed : goal.returns-then-size_missed
returns-then-size_missed c =
    let a = c.args in let ink = inked a.frame.now.mask in
    by_size ink a.l a.frame.now.rect (size_says a.frame.now.rect a.l.min_side a.l.max_side c.width-width.ensures.0 c.height-height.ensures.0 c.size_missed.ensures c.if-size_missed.true)

pub returns-then-aspect_missed : goal.returns-then-aspect_missed
returns-then-aspect_missed c =
    let a = c.args in let ink = inked a.frame.now.mask in
    by_aspect ink a.l a.frame.now.rect (size_says a.frame.now.rect a.l.min_side a.l.max_side c.width-width.ensures.0 c.height-height.ensures.0 c.size_missed.ensures c.if-size_missed.false) (aspect_says a.frame.now.rect a.l.box_aspect_tol c.width-width.ensures.0 c.height-height.ensures.0 c.aspect_missed.ensures c.if-aspect_missed.true)

pub returns-then-edge_coverage-l : goal.returns-then-edge_coverage-l
returns-then-edge_coverage-l c =
    let a = c.args in let ink = inked a.frame.now.mask in
    by_edges ink a.l a.frame.now.rect (size_says a.frame.now.rect a.l.min_side a.l.max_side c.width-width.ensures.0 c.height-height.ensures.0 c.size_missed.ensures c.if-size_missed.false) (aspect_says a.frame.now.rect a.l.box_aspect_tol c.width-width.ensures.0 c.height-height.ensures.0 c.aspect_missed.ensures c.if-aspect_missed.false) c.edge_coverage-edge_coverage.ensures c.if-edge_coverage-l.true

pub returns-then-inner-l : goal.returns-then-inner-l
returns-then-inner-l c =
    let a = c.args in let ink = inked a.frame.now.mask in
    by_ink ink a.l a.frame.now.rect (size_says a.frame.now.rect a.l.min_side a.l.max_side c.width-width.ensures.0 c.height-height.ensures.0 c.size_missed.ensures c.if-size_missed.false) (aspect_says a.frame.now.rect a.l.box_aspect_tol c.width-width.ensures.0 c.height-height.ensures.0 c.aspect_missed.ensures c.if-aspect_missed.false) c.edge_coverage-edge_coverage.ensures c.if-edge_coverage-l.false c.inner_ink-inner.ensures c.if-inner-l.true

pub returns : goal.returns
returns c =
    let a = c.args in let ink = inked a.frame.now.mask in
    is_box ink a.l a.frame.now.rect (size_says a.frame.now.rect a.l.min_side a.l.max_side c.width-width.ensures.0 c.height-height.ensures.0 c.size_missed.ensures c.if-size_missed.false) (aspect_says a.frame.now.rect a.l.box_aspect_tol c.width-width.ensures.0 c.height-height.ensures.0 c.aspect_missed.ensures c.if-aspect_missed.false) c.edge_coverage-edge_coverage.ensures c.if-edge_coverage-l.false c.inner_ink-inner.ensures c.if-inner-l.false (ap (λ (s : Region). s.rect) c.frame.view_is) refl
