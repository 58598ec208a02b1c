-- What the functions of `rects` ask and leave; none of it is needed to read the contracts.
use Rattle.std.specs.Prelude.{ℕ, ◌+◌, ◌*◌, ◌≤◌, ◌<◌, List, length}
use Rattle.lists.specs.Lists.{In}
use Rattle.rects.specs.declared.Rect.{Rect}
use Rattle.rects.specs.Rects.{count, rect_at}

-- The same as plain facts.
pub record Inside (w h : ℕ) (r : Rect) : Type 0 where
  pub wide : r.x0 ≤ r.x1
  pub high : r.y0 ≤ r.y1
  pub right : r.x1 < w
  pub bottom : r.y1 < h

-- Every rectangle of a list lies so.
abbrev pub AllInside : ℕ → ℕ → List ℕ → Type 0
AllInside w h rects = (k : ℕ) → k < count rects → Inside w h (rect_at rects k)

-- Each place has its rectangle in the list.
abbrev pub Places : List ℕ → List ℕ → Type 0
Places rects places = (k : ℕ) → In places k → 4 * k + 4 ≤ length rects
