-- A joined share is finite and at most 1: joined ends are at most all ends, and rounding doesn't pass a whole number.
use mathlib.Core.List.{List}
use Prim.Native.Nat.{ℕ, ◌*◌, ◌<◌, ◌≤◌}
use native.Mathlib.Omega.{arith}
use lib.Dec.{lit<}
use lib.ListN.{length}
use Rattle.lists.proofs.Sizes.{keep_size_le}
use Rattle.math.proofs.Bound.{AtMost}
use Rattle.math.proofs.Quotient.{quotient_at_most}
use Rattle.meeting.specs.declared.segment.Segment.{Segment}
use Rattle.meeting.specs.Meeting.{end_joined, joined_ends, share_of}

-- each member has two ends
pub joined_le : (join : ℕ) (s : ℕ → Segment) (set : List ℕ) → joined_ends join s set ≤ 2 * length set
unfolding joined_ends
joined_le join s set = omega (arith, keep_size_le (λ i. end_joined join s set (s i).start i) set, keep_size_le (λ i. end_joined join s set (s i).end i) set)

pub share_small : (join : ℕ) (s : ℕ → Segment) (set : List ℕ) → 0 < length set → length set ≤ 4096 → AtMost 1 (share_of join s set)
unfolding share_of
share_small join s set some few =
    let l = joined_le join s set in
    quotient_at_most 1 (joined_ends join s set) (2 * length set) (omega arith) (omega arith) (omega arith) (omega arith) (lit< tt)
