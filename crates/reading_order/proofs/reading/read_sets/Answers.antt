-- `reading::read_sets` meets its contract: one set more a turn, in the places of its members.
use mathlib.Core.Path.{◌≡◌, sym, ap, ◌∙◌}
use mathlib.Core.List.{List}
use Prim.Native.Nat.{ℕ, ◌+◌, ◌≤◌, ◌<◌}
use native.Mathlib.Omega.{arith}
use lib.ListN.{length}
use lib.Seq.{sets}
use Rattle.listings.specs.Listed.{set_of}
use Rattle.reading_order.specs.Reading.{reading_order}
use Rattle.reading_order.specs.Steps.{Indexes, SetsIn}
use Rattle.lists.proofs.Runs.{total_next, total_room, total_same, run_written}
use Rattle.reading_order.proofs.ReadingOrder.{reading_long}
use Rattle.reading_order.proofs.reading.read_sets.Invariants.{Progress, read}
use Rattle.reading_order.proofs.reading.read_sets.Goals as goal

module _ (rects : List ℕ) (f : ℕ → List ℕ) {n m : ℕ} {re re' : List ℕ} {at k : ℕ}
    (P : Progress rects f re re' at k) (l : k < n) (S : SetsIn m f n) {s : List ℕ} (e : s ≡ f k) where
  -- the set fits behind the others
  end_low : at + length s ≤ m
  end_low = let g : length s ≡ length (f k) = ap length e in omega (arith, total_room f k n l, P.place, S.total)

  indexes : Indexes m s
  indexes = rw e (S.inside k l)

  turn : {re'' : List ℕ} → m ≤ length re → re'' ≡ sets re' at (reading_order rects s) → Progress rects f re re'' (at + length s) (k + 1)
  turn room c =
      let g : length s ≡ length (f k) = ap length e in
      record {
        place = omega (arith, total_next f k, P.place);
        content =
            c ∙ run_written (read rects f) re P.content (P.place ∙ sym (total_same (read rects f) f (λ j. reading_long rects (f j)) k)) (ap (reading_order rects) e)
            (omega (arith, reading_long rects (f k), end_low));
      }

pub read_set-requires : goal.read_set-requires
read_set-requires c =
    let f = set_of c.args.sets.now in
    let I = indexes c.args.rects.now f c.loop-k.invariant c.loop-k-test.true c.requires.1 c.at-set.ensures in
    let low = end_low c.args.rects.now f c.loop-k.invariant c.loop-k-test.true c.requires.1 c.at-set.ensures in
    let W = c.requires.2 in (
      c.requires.0,
      I,
      record { order = omega (arith, I.short, W.order); work = omega (arith, I.short, W.work); keys = omega (arith, I.short, W.keys) },
      omega (arith, low, c.requires.3),
    )

-- stands here since the check alone doesn't know that the set ends within the list
pub overflow_add-at : goal.overflow_add-at
overflow_add-at c =
    omega (arith, end_low c.args.rects.now (set_of c.args.sets.now) c.loop-k.invariant c.loop-k-test.true c.requires.1 c.at-set.ensures, c.requires.0.few)

pub loop-k-preserved : goal.loop-k-preserved
loop-k-preserved c =
    turn c.args.rects.now (set_of c.args.sets.now) c.loop-k.invariant c.loop-k-test.true c.requires.1 c.at-set.ensures c.requires.3 c.read_set.ensures
