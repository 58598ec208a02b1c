-- What `connect` promises, and how the rulings are put in order, so that those which cross a vertical one stand together.
use Rattle.std.specs.Prelude.{◌≡◌, false, cond, List, ℕ, ◌+◌, ◌-◌, ◌*◌, ◌≤◌, ◌<◌, min, length, get_or}
use Rattle.lists.specs.Lists.{concat, written}
use Rattle.sets.specs.Listing.{ends_from}
use Rattle.sorted.specs.Steps.{InOrder}
use Rattle.meeting.specs.declared.segment.Segment.{Segment}
use Rattle.meeting.specs.Meeting.{Touch, ruling_sets}

-- Where a ruling stands: a horizontal one by its doubled centre, and a vertical one behind all of these, since coordinates are below 8,192.
abbrev pub cross_key : Segment → ℕ
cross_key a = cond a.horizontal a.centre2 16384

-- The first and the last key of horizontals whose doubled centre lies within twice a ruling's span widened by the join limit.
abbrev pub first_centre : ℕ → Segment → ℕ
first_centre join b = 2 * b.start - 2 * join

abbrev pub last_centre : ℕ → Segment → ℕ
last_centre join b = min (2 * (b.end + join)) 16383

-- Each ruling below n has its key in a list.
abbrev pub RulingsKeyed : (ℕ → Segment) → ℕ → List ℕ → Type 0
RulingsKeyed s n keys = (i : ℕ) → i < n → get_or keys i 0 ≡ cross_key (s i)

-- They have their keys, and a list has them in the order of these.
pub record RulingsOrdered (s : ℕ → Segment) (n : ℕ) (keys order : List ℕ) : Type 0 where
  pub keyed : RulingsKeyed s n keys
  pub ordered : InOrder n keys order

-- The touching pairs whose first is a vertical ruling below i.
pub record Tried (join : ℕ) (s : ℕ → Segment) (i a b : ℕ) : Type 0 where
  pub touch : Touch join s a b
  pub stands : (s a).horizontal ≡ false
  pub before : a < i

-- The closed sets were listed.
pub record Connected (join : ℕ) (s : ℕ → Segment) (n : ℕ) (m e m' e' : List ℕ) (r : ℕ) : Type 0 where
  pub count : r ≡ length (ruling_sets join s n)
  pub members : m' ≡ written (concat (ruling_sets join s n)) m
  pub ends : e' ≡ written (ends_from 0 (ruling_sets join s n)) e
  pub total : length (concat (ruling_sets join s n)) ≤ n
