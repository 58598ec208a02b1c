-- `reading::put` meets its contract: after k turns the first k members are stored.
use mathlib.Core.Path.{◌≡◌, sym, ap, ◌∙◌}
use mathlib.Core.List.{List}
use Prim.Native.Nat.{ℕ, ◌≤◌, ◌<◌}
use native.Mathlib.Numerals.{add-one}
use native.Mathlib.Omega.{arith}
use lib.ListN.{length, get_or, take, length-map}
use lib.Seq.{length-take-le, get_or-take, paste-zero, paste-suc, sets-eq, take-length}
use Rattle.lists.proofs.Keep.{get_d_map}
use Rattle.reading_order.proofs.reading.put.Invariants.{ordered}
use Rattle.reading_order.proofs.reading.put.Goals as goal

module _ (s order : List ℕ) (room : length s ≤ length order) where
  size : length (ordered s order) ≡ length s
  size = length-map (take (length s) order) (λ i. get_or s i 0) ∙ length-take-le (length s) order room

  member : (k : ℕ) → k < length s → get_or s (get_or order k 0) 0 ≡ get_or (ordered s order) k 0
  member k h =
      sym (get_d_map (λ i. get_or s i 0) (take (length s) order) k 0 (rw (length-take-le (length s) order room) h)
      ∙ ap (λ (i : ℕ). get_or s i 0) (get_or-take (length s) order k 0 h))

pub loop-k-init : goal.loop-k-init
loop-k-init c = paste-zero c.args.reading.now c.args.at (ordered c.args.set.now c.args.order.now)

pub loop-k-preserved : goal.loop-k-preserved
loop-k-preserved c =
    let s = c.args.set.now in
    let o = c.args.order.now in
    let a = c.args in
    let k = c.loop-k.k in
    let h = c.loop-k-test.true in
    rw (c.loop-k.invariant, member s o c.requires.0 k h, add-one k)
    (paste-suc a.reading.now a.at (ordered s o) k 0 (omega (arith, c.requires.2)) (rw (size s o c.requires.0) h))

-- all of them are stored
pub returns : goal.returns
returns c =
    let s = c.args.set.now in
    let o = c.args.order.now in
    let e : c.loop-k.k ≡ length (ordered s o) = omega (arith, size s o c.requires.0) in
    rw (sets-eq (ordered s o) c.args.reading.now c.args.at (omega (arith, c.requires.2, size s o c.requires.0))) (rw (e, take-length) at c.loop-k.invariant)
