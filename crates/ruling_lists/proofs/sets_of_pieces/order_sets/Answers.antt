-- `sets_of_pieces::order_sets` meets its contract: the keys that were written are those that are sorted.
use mathlib.Core.Path.{◌≡◌, sym, ap, ◌∙◌}
use mathlib.Core.List.{List, ◌++◌}
use Prim.Native.Nat.{ℕ}
use lib.ListN.{length, take, drop, length-map}
use lib.Seq.{take_at}
use Rattle.lists.specs.Lists.{written}
use Rattle.lists.proofs.Keep.{length_values}
use Rattle.order.specs.Order.{key_at, sorted_indexes}
use Rattle.order.proofs.Computed.{sorted_length}
use Rattle.rects.specs.Around.{around}
use Rattle.listings.specs.Listed.{set_of}
use Rattle.ruling_lists.specs.Rulings.{ruling_key, ruling_keys}
use Rattle.ruling_lists.specs.Steps.{parts_of}
use Rattle.ruling_lists.proofs.sets_of_pieces.order_sets.Goals as goal

ordered : (pieces : List ℕ) (f : ℕ → List ℕ) (n : ℕ) (keys order : List ℕ) {keys' order' : List ℕ} → keys' ≡ written (ruling_keys pieces (parts_of f n)) keys
    → order' ≡ sorted_indexes (take n keys') ++ drop (length (take n keys')) order → order' ≡ written (sorted_indexes (ruling_keys pieces (parts_of f n))) order
ordered pieces f n keys order {keys'} p q =
    let ks = ruling_keys pieces (parts_of f n) in
    let long : length ks ≡ n = length-map (parts_of f n) (λ s. ruling_key (around pieces s)) ∙ length_values f n in
    let same : take n keys' ≡ ks = ap (take n) p ∙ take_at ks (drop (length ks) keys) n long in
    q ∙ ap (λ (t : List ℕ). sorted_indexes t ++ drop (length t) order) same
    ∙ ap (λ (k : ℕ). sorted_indexes ks ++ drop k order) (sym (sorted_length (key_at ks) (length ks)))

pub returns : goal.returns
returns c =
    let a = c.args in
    record { content = ordered a.pieces.now (set_of a.sets.now) a.sets.now.count a.keys.now a.order.now c.set_keys.ensures c.sort.ensures }
