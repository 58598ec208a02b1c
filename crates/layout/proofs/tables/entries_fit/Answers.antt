-- `layout::tables::entries_fit` meets its contract: the library's test of each element is the definition's.
use Rattle.std.proofs.Common.{◌∙◌, ◌&&◌, leb, nat_abs, rules, tests}
use lib.IntN.{ℤ, pos}
use lib.Signed.{non_neg}
use Rattle.std.proofs.lemmas.Iterator.{YieldsList-from_slice}
use Rattle.std.proofs.lemmas.Iterator.Search.{all_from_yields_List}
use Rattle.layout.specs.Tables.{entries_fit}
use Rattle.layout.proofs.Every.{all_is_every}
use Rattle.layout.proofs.tables.entries_fit.Goals as goal

pub returns : goal.returns
unfolding entries_fit
returns c =
    let table = c.args.table.now in
    let fits = λ (z : ℤ). non_neg z && leb (nat_abs z) c.args.limit in
    all_from_yields_List fits _ _ _ c.all.ensures.ran (YieldsList-from_slice table cc) (λ x b q k. search (rules, tests)) ∙ all_is_every fits (pos 0) table
