-- `contrast::columns::sum_of_part` meets its contract: the entries are the darkest pixels of the columns.
use mathlib.Core.Path.{◌∙◌}
use native.Mathlib.Omega.{arith}
use lib.ListN.{get_or-replicate}
use Rattle.paper.specs.Pixels.{darkest_of}
use Rattle.contrast.proofs.Lines.{columns_sum}
use Rattle.contrast.proofs.columns.sum_of_part.Goals as goal

pub darken_rows-requires : goal.darken_rows-requires
unfolding darkest_of
darken_rows-requires c = (c.requires.0, c.requires.1, λ i l. get_or-replicate 256 i 255 0 (omega (arith, c.requires.0)))

pub returns : goal.returns
returns c =
    let start = c.args in
    c.sum_of.ensures ∙ columns_sum start.raster.now.pixels start.start start.n start.rows start.raster.now.w c.darken_rows.new.least (omega (arith, c.requires.0, c.darken_rows.auto.least)) c.darken_rows.ensures
