-- `ends::joined_ends` meets its contract. The invariant: what was counted, with what is left, makes the whole.
use mathlib.Core.Path.{◌≡◌}
use mathlib.Core.Bool.{Bool}
use mathlib.Core.List.{List}
use Prim.Native.Nat.{ℕ, ◌+◌, ◌*◌, ◌≤◌, ◌<◌}
use native.Mathlib.Omega.{arith}
use lib.ListN.{length, get_or, drop}
use Rattle.lists.specs.Lists.{one, keep}
use Rattle.meeting.specs.declared.segment.Segment.{Segment}
use Rattle.meeting.specs.Segments.{ruling}
use Rattle.meeting.specs.Meeting.{end_joined, joined_ends}
use Rattle.junctions.proofs.Joining.{kept_step, one_le}
use Rattle.junctions.proofs.ends.joined_ends.Given as goal

module _ (join : ℕ) (s : ℕ → Segment) (set : List ℕ) where
  abbrev pub starts : ℕ → Bool
  starts i = end_joined join s set (s i).start i

  abbrev pub stops : ℕ → Bool
  stops i = end_joined join s set (s i).end i

  pub record Counted (joined k : ℕ) : Type 0 where
    pub total : joined + (length (keep starts (drop k set)) + length (keep stops (drop k set))) ≡ joined_ends join s set
    pub low : joined ≤ 2 * k

  pub begun : Counted 0 0
  unfolding joined_ends
  begun = record { total = omega arith; low = omega arith }

  pub turn : {joined k r : ℕ} → Counted joined k → k < length set → r ≡ one (starts (get_or set k 0)) + one (stops (get_or set k 0)) → Counted (joined + r) (k + 1)
  turn {joined} {k} {r} C h e =
      record {
        total = omega (arith, C.total, kept_step starts set k h, kept_step stops set k h);
        low = omega (arith, C.low, one_le (starts (get_or set k 0)), one_le (stops (get_or set k 0)));
      }

abbrev pub invariant-loop-i : goal.invariant-loop-i
invariant-loop-i l = Counted l.join (ruling l.rulings) l.set l.joined l.i-index
