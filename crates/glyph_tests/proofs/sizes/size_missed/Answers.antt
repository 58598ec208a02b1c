-- `sizes::size_missed` meets its contract: the first test that holds decides.
use mathlib.Core.Path.{sym}
use Rattle.glyph_tests.specs.Tests.{size_missed}
use Rattle.glyph_tests.proofs.sizes.size_missed.Goals as goal

pub returns-then-w-least : goal.returns-then-w-least
unfolding size_missed
returns-then-w-least c = simp (sym c.from-w.ensures, c.if-w-least.true)

pub returns-then-h-least : goal.returns-then-h-least
unfolding size_missed
returns-then-h-least c = simp (sym c.from-w.ensures, sym c.from-h.ensures, c.if-w-least.false, c.if-h-least.true)

pub returns-then-w-most : goal.returns-then-w-most
unfolding size_missed
returns-then-w-most c = simp (sym c.from-w.ensures, sym c.from-h.ensures, c.if-w-least.false, c.if-h-least.false, c.if-w-most.true)

pub returns : goal.returns
unfolding size_missed
returns c = simp (sym c.from-w.ensures, sym c.from-h.ensures, c.if-w-least.false, c.if-h-least.false, c.if-w-most.false)
