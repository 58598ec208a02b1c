-- `rules::read` meets its contract: each stage finds what the ones before it left.
use mathlib.Core.Path.{refl, ◌∙◌}
use native.Mathlib.Omega.{arith}
use Rattle.page.proofs.Fields.{page_of}
use Rattle.read_page.proofs.Known.{known}
use Rattle.read_page.proofs.Ruled.{level_ready, rulings_ready, ruling, split_ready, split, tables_ready, tabled}
use Rattle.read_page.proofs.Listed.{read_still, near}
use Rattle.read_page.proofs.rules.read.Goals as goal

pub level-requires : goal.level-requires
level-requires c = let R = rw (← c.page.view_is) at c.requires in level_ready (page_of c.page.inside) (known (page_of c.page.inside) R.given) _ R.room

pub connect-rulings-requires : goal.connect-rulings-requires
connect-rulings-requires c =
    let R = rw (← c.page.view_is) at c.requires in
    rw (← c.page.view_is) (rulings_ready (page_of c.page.inside) (known (page_of c.page.inside) R.given) _ R.room c.level.ensures)

-- there is room for either of the two lists in the other's place, so that an exchange of both is refused for what it leaves
pub part-parted-requires : goal.part-parted-requires
part-parted-requires c =
    let R = rw (← c.page.view_is) at c.requires in
    let K = known (page_of c.page.inside) R.given in
    let M = rw (← c.page.view_is) at c.connect-rulings.ensures in
    let S = split_ready (page_of c.page.inside) K _ R.room (ruling (page_of c.page.inside) K _ R.room c.level.ensures M) in
    (S.0, record { few = S.1.few; printed = omega (arith, S.1.printed, S.1.faint); faint = omega (arith, S.1.printed, S.1.faint) })

pub find_tables-found-requires : goal.find_tables-found-requires
find_tables-found-requires c =
    let R = rw (← c.page.view_is) at c.requires in
    let K = known (page_of c.page.inside) R.given in
    let M = rw (← c.page.view_is) at c.connect-rulings.ensures in
    let L = ruling (page_of c.page.inside) K _ R.room c.level.ensures M in
    tables_ready (page_of c.page.inside) K _ R.room L (split (page_of c.page.inside) K _ R.room L c.part-parted.ensures) c.connect-rulings.auto.parents c.connect-rulings.auto.order c.connect-rulings.auto.keys

pub returns-clause-done : goal.returns-clause-done
returns-clause-done c =
    let R = rw (← c.page.view_is) at c.requires in
    let K = known (page_of c.page.inside) R.given in
    let M = rw (← c.page.view_is) at c.connect-rulings.ensures in
    let L = ruling (page_of c.page.inside) K _ R.room c.level.ensures M in
    let S = split (page_of c.page.inside) K _ R.room L c.part-parted.ensures in
    let F = tabled (page_of c.page.inside) K _ R.room L S c.find_tables-found.ensures in
    rw (← c.page.view_is)
    (record {
      rulings = L.count;
      printed = S.printed_count;
      faint = S.faint_count;
      tables = F.table_count;
      printed_sets = F.set_count;
      free = F.free_count;
      levelled = c.level.ensures;
      answers = record { rects = L.rects; directions = L.directions; contrasts = L.contrasts; printed = S.printed; faint = S.faint; piece_members = L.members; piece_ends = L.ends; bounds = F.bounds; rows = F.rows; columns = F.columns; rulings = F.rulings; shares = F.shares; free = F.free; printed_members = F.members; printed_ends = F.ends; numbers = F.numbers };
      pieces_read = read_still refl refl L.count L.read;
      printed_read = read_still refl refl F.set_count F.read;
      near = near (page_of c.page.inside) K _ R.room L L.contrasts;
      work_long = record { parents = c.find_tables-found.auto.parents ∙ c.connect-rulings.auto.parents; listed = c.connect-rulings.auto.listed; listed_ends = c.connect-rulings.auto.listed_ends; order = c.find_tables-found.auto.work ∙ c.connect-rulings.auto.order; keys = c.find_tables-found.auto.keys ∙ c.connect-rulings.auto.keys };
    })
