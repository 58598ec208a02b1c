-- `places::length_of` meets its contract: the side along the ruling.
use mathlib.Core.Path.{sym, ap, ◌∙◌}
use Rattle.findings.specs.Made.{length_of}
use Rattle.findings.proofs.places.length_of.Goals as goal

pub returns-then-horizontal : goal.returns-then-horizontal
returns-then-horizontal c = c.width.ensures ∙ ap (length_of c.args.r) (sym c.if-horizontal.true)

pub returns-else-horizontal : goal.returns-else-horizontal
returns-else-horizontal c = c.height.ensures ∙ ap (length_of c.args.r) (sym c.if-horizontal.false)
