-- `levelling::pad_row` meets its contract: both margins are written white.
use Rattle.levelling.proofs.Settle.{white_margins}
use Rattle.levelling.proofs.pad_row.Goals as goal

pub returns : goal.returns
returns c =
    let a = c.args in
    white_margins a.w a.y a.from a.to a.out.now _ _ c.requires.0 c.requires.1.0 c.whiten.ensures c.whiten-2.ensures
