-- `Mask::is_ink` meets its contract: it reads the byte of the place.
use borrow.Author.Rules.{rules}
use Rattle.ink.specs.Ink.{ink_at}
use Rattle.ink.proofs.Mask.is_ink.Goals as goal

pub returns : goal.returns
unfolding ink_at
returns c = rw (← c.self.view_is) (search rules)
