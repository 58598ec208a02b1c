-- Document 01's rule pieces: direction, doubled centre, span, and when two touch.
use Rattle.std.specs.Prelude.{ℕ, ◌+◌, ◌-◌, ◌*◌, min, max, ◌≡◌, Bool, true, not, cond, ◌&&◌, List, leb}
use Rattle.rects.specs.declared.Rect.{Rect}
use Rattle.rects.specs.Rects.{width_of, height_of, rect_at}

-- A piece at least as wide as high is horizontal.
unfoldable pub horizontal : Rect → Bool
horizontal r = leb (height_of r) (width_of r)

-- The doubled centre: the sum of the two cross coordinates.
unfoldable pub centre2 : Rect → ℕ
unfolding horizontal
centre2 r = cond (horizontal r) (r.y0 + r.y1) (r.x0 + r.x1)

-- The span along the piece, from its start to its end.
unfoldable pub start : Rect → ℕ
unfolding horizontal
start r = cond (horizontal r) r.x0 r.y0

unfoldable pub end : Rect → ℕ
unfolding horizontal
end r = cond (horizontal r) r.x1 r.y1

-- Two directions agree.
abbrev pub agree : Bool → Bool → Bool
agree a b = cond a b (not b)

-- Two numbers differ by at most a limit.
abbrev pub within : ℕ → ℕ → ℕ → Bool
within limit a b = leb (max a b - min a b) limit

-- Two pieces touch: directions agree, doubled centres differ by at most twice the across limit, and larger start − smaller end − 1 is at
-- most the gap limit (written without the subtraction, which may go below 0).
unfoldable pub touching : ℕ → ℕ → Rect → Rect → Bool
unfolding horizontal centre2 start end
touching across gap a b =
    agree (horizontal a) (horizontal b) && within (2 * across) (centre2 a) (centre2 b) && leb (max (start a) (start b)) (min (end a) (end b) + 1 + gap)

-- Two places of a list of pieces touch.
abbrev pub touch : List ℕ → ℕ → ℕ → ℕ → ℕ → Bool
touch pieces across gap i j = touching across gap (rect_at pieces i) (rect_at pieces j)

-- The rule that `touch` decides.
abbrev pub Touch : List ℕ → ℕ → ℕ → ℕ → ℕ → Type 0
Touch pieces across gap i j = touch pieces across gap i j ≡ true
