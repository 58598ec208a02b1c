-- Rulings as `tables` sees them: when two touch, and when an end is joined.
use Rattle.std.specs.Prelude.{Bool, true, false, cond, not, ◌&&◌, List, ℕ, ◌+◌, ◌*◌, leb, eqb, get_or}
use Rattle.rects.specs.declared.Rect.{Rect}
use Rattle.rects.specs.Rects.{rect_at, distance}
use Rattle.meeting.specs.declared.segment.Segment.{Segment}
use Rattle.meeting.specs.Chosen.{Rulings}

-- A ruling by its rectangle and its direction, 0 for horizontal: its span along it, and its doubled centre, the sum of its two cross coordinates.
unfoldable pub segment_of : Rect → ℕ → Segment
segment_of r d =
    cond (eqb d 0) (record { horizontal = true; start = r.x0; end = r.x1; centre2 = r.y0 + r.y1 })
    (record { horizontal = false; start = r.y0; end = r.y1; centre2 = r.x0 + r.x1 })

-- The ruling at each index: an index is a place among the chosen ones.
abbrev pub ruling_at : List ℕ → List ℕ → List ℕ → ℕ → Segment
ruling_at rects directions chosen i = segment_of (rect_at rects (get_or chosen i 0)) (get_or directions (get_or chosen i 0) 0)

-- The same of the rulings given together.
abbrev pub ruling : Rulings → ℕ → Segment
ruling r i = ruling_at r.rects r.directions r.chosen i

-- One is horizontal and the other vertical.
abbrev pub opposite : Segment → Segment → Bool
opposite a b = cond a.horizontal (not b.horizontal) b.horizontal

-- A doubled place lies within twice the ruling's span widened by the join limit at both ends.
abbrev pub span_holds : ℕ → Segment → ℕ → Bool
span_holds join a c = leb (2 * a.start) (c + 2 * join) && leb c (2 * (a.end + join))

-- Document 01's touching: a horizontal and a vertical, each one's doubled centre within twice the other's widened span. The Rust's `meet`.
unfoldable pub touches : ℕ → Segment → Segment → Bool
touches join a b = opposite a b && span_holds join a b.centre2 && span_holds join b a.centre2

-- The end e of ruling a is joined by ruling b: an opposite one whose doubled centre is at most 2J + 2 from 2e, and whose span, widened by J and
-- doubled, holds the doubled centre of a.
unfoldable pub joins_end : ℕ → ℕ → Segment → Segment → Bool
joins_end join e a b = opposite a b && leb (distance (2 * e) b.centre2) (2 * join + 2) && span_holds join b a.centre2
