-- `find_from` meets its contract: each step finds what the ones before it left.
use Rattle.page_findings.proofs.Making.{first_given, writing_given, page_found}
use Rattle.page_findings.proofs.find_from.Goals as goal

pub keys-rules-requires : goal.keys-rules-requires
keys-rules-requires c =
    let R = rw (← c.s.view_is, ← c.scan.view_is, ← c.ruled.view_is, ← c.tabled.view_is) at c.requires in
    rw (← c.scan.view_is) (first_given _ R c.list.ensures c.choose-folded.ensures)

pub write-finite-requires : goal.write-finite-requires
write-finite-requires c =
    let R = rw (← c.s.view_is, ← c.scan.view_is, ← c.ruled.view_is, ← c.tabled.view_is, ← c.boxed.view_is) at c.requires in
    let K = rw (← c.scan.view_is) at c.keys-rules.ensures in
    let G = rw (← c.scan.view_is, ← c.boxed.view_is) at c.keys.ensures in
    rw (← c.s.view_is, ← c.scan.view_is, ← c.ruled.view_is, ← c.tabled.view_is, ← c.boxed.view_is)
    (writing_given _ R c.list.ensures c.choose-folded.ensures K G c.rank.ensures c.rank.auto.first_ranks c.rank.auto.second_ranks)

pub returns-clause-found : goal.returns-clause-found
returns-clause-found c =
    let R = rw (← c.s.view_is, ← c.scan.view_is, ← c.ruled.view_is, ← c.tabled.view_is, ← c.boxed.view_is) at c.requires in
    let K = rw (← c.scan.view_is) at c.keys-rules.ensures in
    let G = rw (← c.scan.view_is, ← c.boxed.view_is) at c.keys.ensures in
    let W = rw (← c.s.view_is, ← c.scan.view_is, ← c.ruled.view_is, ← c.tabled.view_is, ← c.boxed.view_is) at c.write-finite.ensures.found in
    rw (← c.s.view_is, ← c.scan.view_is, ← c.ruled.view_is, ← c.tabled.view_is, ← c.boxed.view_is)
    (page_found _ R c.list.ensures c.choose-folded.ensures K G c.rank.ensures c.rank.auto.first_ranks c.rank.auto.second_ranks W)
