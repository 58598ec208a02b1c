-- `guard::missed_by_lists` meets its contract.
use Rattle.layout.proofs.Answers.{sides_yes}
use Rattle.page.proofs.guard.missed_by_lists.Goals as goal

pub tables_fit-shears_fit-requires : goal.tables_fit-shears_fit-requires
tables_fit-shears_fit-requires c = let I = rw (← c.page.view_is) at c.requires in let s = sides_yes c.page.inside.sides I in (s.page_wide, s.page_high)
