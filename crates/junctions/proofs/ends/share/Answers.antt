-- `ends::share` meets its contract: the members are put in order, and both counts are small enough to be floats.
use Rattle.std.proofs.Common.{rules}
use mathlib.Core.Path.{◌≡◌, ap}
use mathlib.Core.List.{List}
use Prim.Native.Nat.{ℕ, ◌*◌, ◌≤◌, ◌^◌}
use native.Mathlib.Omega.{arith}
use lib.IntN.{pos}
use lib.Ieee.{binary64, div, of_int}
use lib.ListN.{length}
use Rattle.math.proofs.Sums.{as_float}
use Rattle.meeting.specs.declared.segment.Segment.{Segment}
use Rattle.meeting.specs.Segments.{ruling}
use Rattle.meeting.specs.Meeting.{joined_ends, share_of}
use Rattle.meeting.proofs.Rulings.{given_of}
use Rattle.junctions.specs.Steps.{MembersKeyed}
use Rattle.junctions.proofs.Bound.{joined_le}
use Rattle.junctions.proofs.ends.share.Goals.{After-arrange_by}
use Rattle.junctions.proofs.ends.share.Goals as goal

small : {r : ℕ} (join : ℕ) (s : ℕ → Segment) (set : List ℕ) → r ≡ joined_ends join s set → length set ≤ 4096 → r ≤ 2 ^ 53
small join s set e h = omega (arith, joined_le join s set)

one_division : {r : ℕ} (join : ℕ) (s : ℕ → Segment) (set : List ℕ) → r ≡ joined_ends join s set
    → div binary64 (of_int binary64 (pos r)) (of_int binary64 (pos (2 * length set))) ≡ share_of join s set
unfolding share_of
one_division join s set e = ap (λ (k : ℕ). div binary64 (of_int binary64 (pos k)) (of_int binary64 (pos (2 * length set)))) e

keyed : (c : After-arrange_by) → MembersKeyed (ruling c.args.rulings.now) c.args.set.now c.arrange_by.new.keys
keyed c k l = let p = c.arrange_by.ensures.keyed k l in search rules

pub joined_ends-joined-requires : goal.joined_ends-joined-requires
joined_ends-joined-requires c =
    (c.requires.known, record { keyed = keyed (goal.at.joined_ends-joined-requires c).After-arrange_by; ordered = c.arrange_by.ensures.ordered })

pub int_to_float-result : goal.int_to_float-result
int_to_float-result c =
    as_float c.joined_ends-joined.result (small c.args.join (ruling c.args.rulings.now) c.args.set.now c.joined_ends-joined.ensures (omega (arith, c.requires.known.short, (given_of c.rulings.view_is c.rulings.invariant).few)))

pub returns : goal.returns
returns c =
    one_division c.args.join (ruling c.args.rulings.now) c.args.set.now c.joined_ends-joined.ensures
