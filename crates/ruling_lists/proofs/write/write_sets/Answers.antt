-- `write::write_sets` meets its contract: one set more a turn.
use mathlib.Core.Path.{◌≡◌, ap, ◌∙◌}
use mathlib.Core.List.{List}
use Prim.Native.Nat.{ℕ, ◌+◌, ◌^◌, ◌≤◌, ◌<◌}
use native.Mathlib.Omega.{arith}
use lib.ListN.{length, set}
use lib.Seq.{sets}
use Rattle.lists.proofs.Keep.{length_values}
use Rattle.listings.specs.Listed.{set_of}
use Rattle.ruling_lists.specs.Steps.{in_order, RoomForSets}
use Rattle.lists.proofs.Runs.{total, total_next, total_room, run_written}
use Rattle.ruling_lists.proofs.Runs.{end_written}
use Rattle.ruling_lists.proofs.write.write_sets.Invariants.{Strings, nth}
use Rattle.ruling_lists.proofs.write.write_sets.Goals as goal

-- what appending leaves, and where it ends
abbrev Copied : List ℕ → List ℕ → ℕ → List ℕ → ℕ → Type 0
Copied from to at to' r = (to' ≡ sets to at from) × (r ≡ at + length from)

module _ (f : ℕ → List ℕ) (n : ℕ) (order ms₀ es₀ ms es : List ℕ) (at k : ℕ) (W : Strings f order ms₀ es₀ ms es at k) (l : k < n) (ms_long : length ms ≡ length ms₀) (es_long : length es ≡ length es₀) (R : RoomForSets (in_order f n order) ms₀ es₀) where
  -- the set fits behind the others
  fits : {s : List ℕ} → s ≡ nth f order k → at + length s ≤ length ms
  fits {s} e =
      let g : length s ≡ length (nth f order k) = ap length e in
      omega (arith, total_room (nth f order) k n l, W.place, R.members)

  end_small : {s : List ℕ} (r : ℕ) → s ≡ nth f order k → r ≤ at + length s → r < 2 ^ 32
  end_small {s} r e h =
      let g : length s ≡ length (nth f order k) = ap length e in
      omega (arith, total_room (nth f order) k n l, W.place, R.small)

  end_room : k < length es
  end_room = omega (arith, length_values (nth f order) n, R.ends)

  turn : {s ms' : List ℕ} {r : ℕ} → s ≡ nth f order k → Copied s ms at ms' r → Strings f order ms₀ es₀ ms' (set es k r) r (k + 1)
  turn {s} {ms'} {r} e C =
      let g : length s ≡ length (nth f order k) = ap length e in
      let next : r ≡ total (nth f order) (k + 1) = omega (arith, total_next (nth f order) k, W.place, C.1) in
      record {
        place = next;
        members = C.0 ∙ run_written (nth f order) ms₀ W.members W.place e (omega (arith, total_room (nth f order) k n l, W.place, R.members));
        ends = end_written (nth f order) es₀ W.ends (omega (arith, end_room)) next;
      }

pub append-at-requires : goal.append-at-requires
append-at-requires c =
    let a = c.args in
    omega (arith, fits (set_of a.sets.now) a.sets.now.count a.order.now a.members.now a.ends.now c.loop-place.members c.loop-place.ends c.loop-place.at c.loop-place.place c.loop-place.invariant c.loop-place-test.true c.loop-place.auto.members c.loop-place.auto.ends c.requires.1 c.at-set.ensures)

pub overflow_cast-ends : goal.overflow_cast-ends
overflow_cast-ends c =
    let a = c.args in
    record { fits = end_small (set_of a.sets.now) a.sets.now.count a.order.now a.members.now a.ends.now c.loop-place.members c.loop-place.ends c.loop-place.at c.loop-place.place c.loop-place.invariant c.loop-place-test.true c.loop-place.auto.members c.loop-place.auto.ends c.requires.1 c.append-at.result c.at-set.ensures (omega (arith, c.append-at.ensures.1)) }

pub bounds-ends-place : goal.bounds-ends-place
bounds-ends-place c =
    let a = c.args in
    end_room (set_of a.sets.now) a.sets.now.count a.order.now a.members.now a.ends.now c.loop-place.members c.loop-place.ends c.loop-place.at c.loop-place.place c.loop-place.invariant c.loop-place-test.true c.loop-place.auto.members c.loop-place.auto.ends c.requires.1

pub loop-place-preserved : goal.loop-place-preserved
loop-place-preserved c =
    let a = c.args in
    turn (set_of a.sets.now) a.sets.now.count a.order.now a.members.now a.ends.now c.loop-place.members c.loop-place.ends c.loop-place.at c.loop-place.place c.loop-place.invariant c.loop-place-test.true c.loop-place.auto.members c.loop-place.auto.ends c.requires.1 c.at-set.ensures c.append-at.ensures
