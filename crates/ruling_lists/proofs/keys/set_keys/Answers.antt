-- `keys::set_keys` meets its contract: key k is that of set k.
use Rattle.std.proofs.Common.{rules}
use mathlib.Core.Path.{sym, ap, ◌∙◌}
use mathlib.Core.List.{List}
use Prim.Native.Nat.{ℕ}
use Rattle.lists.specs.Lists.{below, written}
use Rattle.lists.proofs.Keep.{map_map}
use Rattle.lists.proofs.Runs.{values_written}
use Rattle.rects.specs.Around.{around}
use Rattle.listings.specs.Listed.{set_of}
use Rattle.ruling_lists.specs.Rulings.{ruling_key}
use Rattle.ruling_lists.proofs.keys.set_keys.Goals as goal

pub returns : goal.returns
returns c =
    let a = c.args in
    let set = set_of a.sets.now in
    let n = a.sets.now.count in
    c.put_all.ensures.all (λ k. ruling_key (around a.pieces.now (set k))) (λ k x h p. search rules)
    ∙ values_written (λ k. ruling_key (around a.pieces.now (set k))) n a.keys.now c.requires.2
    ∙ ap (λ (t : List ℕ). written t a.keys.now) (sym (map_map (λ s. ruling_key (around a.pieces.now s)) set (below n)))
