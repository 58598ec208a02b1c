-- The reading order of a set of boxes: by y0, then x0, then index.
use Rattle.std.specs.Prelude.{◌≡◌, ◌⊎◌, List, map, ℕ, ◌+◌, ◌*◌, ◌<◌, length, get_or}
use Rattle.lists.specs.Lists.{In}
use Rattle.order.specs.Order.{StandsOnce, sorted_indexes}
use Rattle.rects.specs.declared.Rect.{Rect}
use Rattle.rects.specs.Rects.{rect_at}

-- One box is read before another: by y0, then x0, then index.
abbrev pub ReadBefore : List ℕ → ℕ → ℕ → Type 0
ReadBefore rects i j =
    ((rect_at rects i).y0 < (rect_at rects j).y0)
    ⊎ (((rect_at rects i).y0 ≡ (rect_at rects j).y0)
    × (((rect_at rects i).x0 < (rect_at rects j).x0) ⊎ (((rect_at rects i).x0 ≡ (rect_at rects j).x0) × (i < j))))

-- A list has the members of a set in reading order: each of them once, nothing else, and each one is read before those behind it.
pub record InReadingOrder (rects set order : List ℕ) : Type 0 where
  pub full : length order ≡ length set
  pub members : (k : ℕ) → k < length order → In set (get_or order k 0)
  pub once : (i : ℕ) → In set i → StandsOnce (length order) order i
  pub ordered : (k l : ℕ) → k < l → l < length order → ReadBefore rects (get_or order k 0) (get_or order l 0)

-- y0 and x0 as one number. Of coordinates below 8,192 it orders as the two do one after the other (`reading_orders`).
abbrev pub reading_key : Rect → ℕ
reading_key r = r.y0 * 8192 + r.x0

-- The keys of the members of a set.
abbrev pub reading_keys : List ℕ → List ℕ → List ℕ
reading_keys rects set = map (λ i. reading_key (rect_at rects i)) set

-- The members of a set by key, and equal keys by their place in the set, which ascends: a definition that computes the reading order.
unfoldable pub reading_order : List ℕ → List ℕ → List ℕ
reading_order rects set = map (λ k. get_or set k 0) (sorted_indexes (reading_keys rects set))
