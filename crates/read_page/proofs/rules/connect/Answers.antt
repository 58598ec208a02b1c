-- `rules::connect` meets its contract: both limits are small.
use Rattle.params.proofs.Limits.{limits}
use Rattle.read_page.proofs.rules.connect.Goals as goal

pub limit_u32-across-requires : goal.limit_u32-across-requires
limit_u32-across-requires c = let R = rw (← c.page.view_is) at c.requires in (limits _ _ R.0).across

pub limit_u32-gap-requires : goal.limit_u32-gap-requires
limit_u32-gap-requires c = let R = rw (← c.page.view_is) at c.requires in (limits _ _ R.0).gap
