-- `edges::share` meets its contract.
use Rattle.std.proofs.Common.{ℕ, ap, ap₂, ◌∙◌}
use lib.Ieee.{binary64, div}
use Rattle.math.specs.Sum.{whole}
use Rattle.ink.specs.Ink.{Region}
use Rattle.ink.specs.Steps.{lines_of}
use Rattle.glyph_tests.specs.Steps.{line_share}
use Rattle.glyph_tests.proofs.edges.share.Goals as goal

pub returns : goal.returns
unfolding line_share
returns c =
    let as_many = c.lines_of.ensures ∙ ap (λ (s : Region). lines_of s.rect c.args.lines) c.band.view_is in
    rw (c.from.ensures, c.from-2.ensures) (ap₂ (λ (a b : ℕ). div binary64 (whole a) (whole b)) c.longest-best.ensures as_many)
