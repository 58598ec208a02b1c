-- How the members of a set are put in order, so that those which may join an end stand together.
use Rattle.std.specs.Prelude.{◌≡◌, not, List, ℕ, ◌+◌, ◌-◌, ◌*◌, ◌<◌, length, get_or}
use Rattle.sorted.specs.Steps.{offset, InOrder}
use Rattle.meeting.specs.declared.segment.Segment.{Segment}

-- Where a ruling stands: by its direction and its doubled centre.
abbrev pub centre_key : Segment → ℕ
centre_key a = offset a.horizontal + a.centre2

-- The first and the last key of those that may join the end e of ruling a: of the other direction, and at most 2J + 2 from 2e.
abbrev pub first_key : ℕ → ℕ → Segment → ℕ
first_key join e a = offset (not a.horizontal) + (2 * e - (2 * join + 2))

abbrev pub last_key : ℕ → ℕ → Segment → ℕ
last_key join e a = offset (not a.horizontal) + (2 * e + (2 * join + 2))

-- Each member of a set has its key in a list.
abbrev pub MembersKeyed : (ℕ → Segment) → List ℕ → List ℕ → Type 0
MembersKeyed s set keys = (k : ℕ) → k < length set → get_or keys k 0 ≡ centre_key (s (get_or set k 0))

-- The members of a set have their keys, and a list has their places in the order of these.
pub record MembersOrdered (s : ℕ → Segment) (set keys order : List ℕ) : Type 0 where
  pub keyed : MembersKeyed s set keys
  pub ordered : InOrder (length set) keys order
