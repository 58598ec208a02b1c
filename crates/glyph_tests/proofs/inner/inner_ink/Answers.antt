-- `inner::inner_ink` meets its contract: the inner half has a place at least.
use Rattle.std.proofs.Common.{ap, ◌∙◌}
use Rattle.ink.specs.Ink.{Region, inked, ink_in}
use Rattle.glyph_tests.proofs.Halves.{share_is}
use Rattle.glyph_tests.proofs.inner.inner_ink.Goals as goal

pub returns : goal.returns
returns c =
    let s = c.frame.inside in
    let half = c.part-half.result.rect in
    let part = rw (← c.frame.view_is) at c.part-half.ensures in
    rw (c.from.ensures, c.from-2.ensures, ← c.frame.view_is)
    (share_is (inked s.mask.now) s.rect (ap (λ (p : Region). p.rect) part ∙ c.inner_half.ensures) (c.ink_in-inked.ensures ∙ ap (λ (p : Region). ink_in (inked p.mask) half) part) c.width.ensures.0 c.height.ensures.0)
