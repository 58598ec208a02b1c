-- Document 01's smallest rectangle around a set: it holds all its members and lies inside every other rectangle that does.
use Rattle.std.specs.Prelude.{ℕ, ◌≤◌, min, max, List, [], ◌∷◌}
use Rattle.lists.specs.Lists.{In}
use Rattle.rects.specs.declared.Rect.{Rect}
use Rattle.rects.specs.Rects.{rect_at}

-- r holds s.
pub record Holds (r s : Rect) : Type 0 where
  pub left : r.x0 ≤ s.x0
  pub top : r.y0 ≤ s.y0
  pub right : s.x1 ≤ r.x1
  pub bottom : s.y1 ≤ r.y1

-- s holds every rectangle at the given places of a list.
abbrev pub HoldsAll : List ℕ → List ℕ → Rect → Type 0
HoldsAll rects places s = (k : ℕ) → In places k → Holds s (rect_at rects k)

-- The smallest rectangle around those at the given places.
pub record Smallest (rects places : List ℕ) (r : Rect) : Type 0 where
  pub holds : HoldsAll rects places r
  pub least : (s : Rect) → HoldsAll rects places s → Holds s r

-- The smallest rectangle around two.
abbrev pub union_of : Rect → Rect → Rect
union_of a b = record { x0 = min a.x0 b.x0; y0 = min a.y0 b.y0; x1 = max a.x1 b.x1; y1 = max a.y1 b.y1 }

-- The smallest rectangle around r and those at the given places.
unfoldable pub unioned : List ℕ → Rect → List ℕ → Rect
unioned rects r [] = r
unioned rects r (k ∷ ks) = unioned rects (union_of r (rect_at rects k)) ks

-- The smallest rectangle around those at the given places, of which there is one: a definition that computes (`around_smallest` is the law).
unfoldable pub around : List ℕ → List ℕ → Rect
unfolding unioned
around rects [] = rect_at [] 0
around rects (k ∷ ks) = unioned rects (rect_at rects k) ks
