-- `segments::rulings` meets its contract: the sets are listed, ordered, strung together in that order, and described.
use mathlib.Core.Path.{◌∙◌}
use Rattle.ruling_lists.proofs.Rectangles.{all_wider}
use Rattle.segments.proofs.Core.{still, few_sets, small_count, listed_parts, sets_room, sets_strung, strung_parts, rulings_room, made}
use Rattle.segments.proofs.segments.rulings.Goals as goal

pub order_sets-requires : goal.order_sets-requires
order_sets-requires c =
    let R = c.requires.roomy in
    let P = c.requires.picture in
    let a = c.args in
    let L = c.list_sets-count.ensures in (
      all_wider a.pieces.now P.narrow P.low P.inside,
      listed_parts a.pieces.now a.across a.gap L R.listed R.listed_ends,
      small_count a.pieces.now a.across a.gap L c.requires.few,
      still (few_sets a.pieces.now a.across a.gap L) R.parents c.list_sets-count.auto.parents,
      still (few_sets a.pieces.now a.across a.gap L) R.work c.list_sets-count.auto.work,
      still (few_sets a.pieces.now a.across a.gap L) R.keys c.list_sets-count.auto.keys,
    )

pub write_sets-requires : goal.write_sets-requires
write_sets-requires c =
    let R = c.requires.roomy in
    let a = c.args in
    let L = c.list_sets-count.ensures in (
      still (few_sets a.pieces.now a.across a.gap L) R.parents (c.order_sets.auto.order ∙ c.list_sets-count.auto.parents),
      sets_room a.pieces.now a.across a.gap L R.listed R.listed_ends c.order_sets.ensures c.requires.few R.members R.ends,
    )

pub write_rulings-requires : goal.write_rulings-requires
write_rulings-requires c =
    let R = c.requires.roomy in
    let a = c.args in
    let L = c.list_sets-count.ensures in
    let S = sets_strung a.pieces.now a.across a.gap L R.listed R.listed_ends c.order_sets.ensures c.write_sets.ensures in (
      c.requires.picture,
      strung_parts a.pieces.now a.across a.gap L S R.members R.ends,
      rulings_room a.pieces.now a.across a.gap L R.rulings,
    )

pub returns-clause-made : goal.returns-clause-made
returns-clause-made c =
    let R = c.requires.roomy in
    let a = c.args in
    let L = c.list_sets-count.ensures in
    let S = sets_strung a.pieces.now a.across a.gap L R.listed R.listed_ends c.order_sets.ensures c.write_sets.ensures in
    made a.pieces.now a.across a.gap L _ _ S R c.write_rulings.ensures
