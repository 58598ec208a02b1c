-- `found::test_glyph` meets its contract: the glyph box is passed over by its size, for lack of a frame, or by its frame.
use Rattle.std.proofs.Common.{ap, ◌∙◌}
use Rattle.ink.specs.Ink.{Region, inked}
use Rattle.glyph_tests.specs.Steps.{found_in}
use Rattle.glyph_tests.proofs.Frames.{frameless, has_one, frame_within}
use Rattle.glyph_tests.proofs.Tests.{size_says, by_loose_size, by_frame, by_its_frame}
use Rattle.glyph_tests.proofs.found.test_glyph.Goals as goal

pub returns-then-size_missed : goal.returns-then-size_missed
returns-then-size_missed c =
    let a = c.args in
    let ink = inked a.r.now.mask in
    by_loose_size ink a.l a.r.now.rect (size_says a.r.now.rect a.l.min_size a.l.slack c.width.ensures.0 c.height.ensures.0 c.size_missed.ensures c.if-size_missed.true)

pub part-requires : goal.part-requires
part-requires c =
    let a = c.args in
    let ink = inked a.r.now.mask in
    let h = has_one ink a.l.box_overshoot_fraction a.r.now.rect c.frame_of.ensures c.in_ok-f.was in
    rw h.1 (frame_within ink a.l.box_overshoot_fraction a.r.now.rect c.width.ensures.1.wide c.width.ensures.1.high h.0)

pub returns-in_err-f : goal.returns-in_err-f
returns-in_err-f c =
    let a = c.args in
    let ink = inked a.r.now.mask in
    c.from_residual.ensures ∙ by_frame ink a.l a.r.now.rect (size_says a.r.now.rect a.l.min_size a.l.slack c.width.ensures.0 c.height.ensures.0 c.size_missed.ensures c.if-size_missed.false) (frameless ink a.l.box_overshoot_fraction a.r.now.rect c.frame_of.ensures c.in_err-f.was)

pub returns : goal.returns
returns c =
    let a = c.args in
    let ink = inked a.r.now.mask in
    let h = has_one ink a.l.box_overshoot_fraction a.r.now.rect c.frame_of.ensures c.in_ok-f.was in
    c.test_frame.ensures ∙ ap (λ (p : Region). found_in (inked p.mask) a.l p.rect) c.part.ensures ∙ ap (found_in ink a.l) h.1 ∙ by_its_frame ink a.l a.r.now.rect (size_says a.r.now.rect a.l.min_size a.l.slack c.width.ensures.0 c.height.ensures.0 c.size_missed.ensures c.if-size_missed.false) h.0
