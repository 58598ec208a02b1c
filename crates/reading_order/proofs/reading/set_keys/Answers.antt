-- `reading::set_keys` meets its contract: key k is that of member k.
use Rattle.std.proofs.Common.{rules}
use mathlib.Core.Path.{ap, ◌∙◌}
use mathlib.Core.List.{List}
use Prim.Native.Nat.{ℕ}
use lib.ListN.{length, get_or}
use Rattle.lists.specs.Lists.{written}
use Rattle.lists.proofs.Keep.{at_entries}
use Rattle.lists.proofs.Runs.{values_written}
use Rattle.rects.specs.Rects.{rect_at}
use Rattle.reading_order.specs.Reading.{reading_key}
use Rattle.reading_order.proofs.reading.set_keys.Goals as goal

pub returns : goal.returns
returns c =
    let a = c.args in
    let s = a.set.now in
    let key : ℕ → ℕ = λ i. reading_key (rect_at a.rects.now i) in
    c.put_all.ensures.all (λ k. key (get_or s k 0)) (λ k x h p. search rules)
    ∙ values_written (λ k. key (get_or s k 0)) (length s) a.keys.now c.requires.2
    ∙ ap (λ (t : List ℕ). written t a.keys.now) (at_entries key s)
