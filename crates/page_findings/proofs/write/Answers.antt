-- `write` meets its contract: each kind's ranks stand behind those of the kinds before it, and its room is what they left.
use mathlib.Core.Path.{ap}
use Rattle.rects.specs.Rects.{count}
use Rattle.findings.specs.Made.{TableLists}
use Rattle.page_findings.proofs.Writing.{rules_ranked, folds_ranked, grids_ranked, wrote_all}
use Rattle.page_findings.proofs.write.Goals as goal

pub write-finite_rules-requires-clause-ranks_given : goal.write-finite_rules-requires-clause-ranks_given
write-finite_rules-requires-clause-ranks_given c =
    let R = rw (← c.s.view_is) at c.requires in
    rules_ranked _ R (ap (λ (t : TableLists). count t.bounds) c.tabled.view_is) c.write-finite_tables.ensures.wrote

pub write-finite_folds-requires-clause-ranks_given : goal.write-finite_folds-requires-clause-ranks_given
write-finite_folds-requires-clause-ranks_given c =
    let R = rw (← c.s.view_is) at c.requires in
    folds_ranked _ R (ap (λ (t : TableLists). count t.bounds) c.tabled.view_is) c.write-finite_tables.ensures.wrote c.write-finite_rules.ensures.wrote

pub write-finite_grids-requires-clause-ranks_given : goal.write-finite_grids-requires-clause-ranks_given
write-finite_grids-requires-clause-ranks_given c =
    let R = rw (← c.s.view_is) at c.requires in
    grids_ranked _ R (ap (λ (t : TableLists). count t.bounds) c.tabled.view_is) c.write-finite_tables.ensures.wrote c.write-finite_rules.ensures.wrote c.write-finite_folds.ensures.wrote

pub returns-clause-found : goal.returns-clause-found
returns-clause-found c =
    let R = rw (← c.s.view_is) at c.requires in
    rw (← c.s.view_is)
    (wrote_all _ R (ap (λ (t : TableLists). count t.bounds) c.tabled.view_is) c.write-finite_tables.ensures.wrote c.write-finite_rules.ensures.wrote c.write-finite_folds.ensures.wrote c.write-finite_grids.ensures.wrote)
