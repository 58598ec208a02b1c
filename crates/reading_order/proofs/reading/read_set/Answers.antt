-- `reading::read_set` meets its contract: the keys that were written are those that are sorted, and the members go by their order.
use mathlib.Core.Path.{◌≡◌}
use Prim.Native.Nat.{ℕ, ◌≤◌}
use native.Mathlib.Omega.{arith}
use Rattle.reading_order.proofs.ReadingOrder.{sorted_places, order_within, read_done}
use Rattle.reading_order.proofs.reading.read_set.Goals as goal

still : {n a b : ℕ} → n ≤ a → b ≡ a → n ≤ b
still h e = omega arith

pub put-requires : goal.put-requires
put-requires c =
    let O = sorted_places c.args.rects.now c.args.set.now c.args.keys.now c.args.order.now c.set_keys.ensures c.sort.ensures in
    (still c.requires.2.order c.sort.auto.out, order_within c.args.rects.now c.args.set.now c.args.order.now O, c.requires.3)

pub returns : goal.returns
returns c =
    let O = sorted_places c.args.rects.now c.args.set.now c.args.keys.now c.args.order.now c.set_keys.ensures c.sort.ensures in
    read_done c.args.rects.now c.args.set.now c.args.order.now c.args.reading.now c.args.at O c.put.ensures
