-- Document 01's boxes as `box_grids` sees them: when two touch, and the sets of those that do.
use Rattle.std.specs.Prelude.{◌≡◌, Bool, true, ◌&&◌, ◌||◌, List, ℕ, ◌+◌, leb}
use Rattle.rects.specs.declared.Rect.{Rect}
use Rattle.rects.specs.Rects.{count, width_of, rect_at, distance}
use Rattle.sets.specs.Listing.{closed_sets}
use Rattle.box_widths.specs.Widths.{similar}

-- The doubled centre of a box each way: the sum of its two coordinates.
abbrev pub centre_x : Rect → ℕ
centre_x r = r.x0 + r.x1

abbrev pub centre_y : Rect → ℕ
centre_y r = r.y0 + r.y1

-- Either doubled centre differs by at most the limit: the boxes stand in one column or in one row.
abbrev pub aligned : ℕ → Rect → Rect → Bool
aligned limit a b = leb (distance (centre_x a) (centre_x b)) limit || leb (distance (centre_y a) (centre_y b)) limit

-- Two boxes touch: their widths are similar, and either doubled centre differs by at most the limit.
unfoldable pub touching : ℕ → Rect → Rect → Bool
unfolding similar
touching limit a b = similar (width_of a) (width_of b) && aligned limit a b

-- Two places of a list of boxes touch.
abbrev pub touch : List ℕ → ℕ → ℕ → ℕ → Bool
touch rects limit i j = touching limit (rect_at rects i) (rect_at rects j)

-- The rule that `touch` decides.
abbrev pub Touch : List ℕ → ℕ → ℕ → ℕ → Type 0
Touch rects limit i j = touch rects limit i j ≡ true

-- The closed sets of boxes, by smallest index, members ascending.
abbrev pub box_sets : List ℕ → ℕ → List (List ℕ)
box_sets rects limit = closed_sets (count rects) (touch rects limit)
