-- What the steps of `shapes` leave.
use Rattle.std.specs.Prelude.{◌≡◌, Bool, true, false, List, ℕ, ◌≤◌, length, take}
use Rattle.meeting.specs.declared.segment.Segment.{Segment}
use Rattle.shapes.specs.declared.limits.Limits.{Limits}
use Rattle.shapes.specs.Shapes.{members, positions, lines_of, is_table}

-- The line positions of the members in a direction stand in front.
pub record Collected (horizontal : Bool) (s : ℕ → Segment) (set keys' : List ℕ) (r : ℕ) : Type 0 where
  pub count : r ≡ length (members horizontal s set)
  pub keys : take r keys' ≡ positions horizontal s set
  pub short : r ≤ length set

-- The members in a direction and their lines were counted.
pub record LinesCounted (cluster : ℕ) (horizontal : Bool) (s : ℕ → Segment) (set : List ℕ) (r l : ℕ) : Type 0 where
  pub rulings : r ≡ length (members horizontal s set)
  pub lines : l ≡ lines_of cluster horizontal s set
  pub few : l ≤ length set

-- Whether a set is a table, and its lines each way.
pub record Shaped (lim : Limits) (s : ℕ → Segment) (set : List ℕ) (t : Bool) (h v : ℕ) : Type 0 where
  pub table : t ≡ is_table lim s set
  pub rows : h ≡ lines_of lim.cluster true s set
  pub columns : v ≡ lines_of lim.cluster false s set
  pub few : (h ≤ length set) × (v ≤ length set)
