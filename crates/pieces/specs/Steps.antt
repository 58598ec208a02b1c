-- What the functions of `pieces` say to each other.
use Rattle.std.specs.Prelude.{ℕ, ◌+◌, ◌^◌, ◌≤◌, ◌<◌, ◌≡◌, Bool, cond, List, get_or}
use Rattle.sets.specs.Closed.{Below}
use Rattle.sets.specs.Steps.{Between, Swept}
use Rattle.sorted.specs.Steps.{offset, InOrder}
use Rattle.rects.specs.declared.Rect.{Rect}
use Rattle.rects.specs.Rects.{count, rect_at}
use Rattle.pieces.specs.Pieces.{horizontal, Touch}

-- The ends of a rectangle are in order.
pub record Ordered (r : Rect) : Type 0 where
  pub wide : r.x0 ≤ r.x1
  pub high : r.y0 ≤ r.y1

-- Every rectangle of a list is ordered.
abbrev pub AllOrdered : List ℕ → Type 0
AllOrdered rects = (k : ℕ) → k < count rects → Ordered (rect_at rects k)

-- Doubled centre, start and end, taken as if the piece were horizontal or not.
abbrev pub centre_in : Bool → Rect → ℕ
centre_in h r = cond h (r.y0 + r.y1) (r.x0 + r.x1)

abbrev pub start_in : Bool → Rect → ℕ
start_in h r = cond h r.x0 r.y0

abbrev pub end_in : Bool → Rect → ℕ
end_in h r = cond h r.x1 r.y1

-- Where a piece stands in the sweep.
abbrev pub sweep_key : Rect → ℕ
sweep_key r = start_in (horizontal r) r + offset (horizontal r)

-- The last key of those that a piece of the given direction may reach.
abbrev pub last_key : ℕ → Bool → Rect → ℕ
last_key gap h r = end_in h r + (gap + 1) + offset h

-- The key of a piece, of which the start fits 32 bits.
pub record KeyOf (r : Rect) (k : ℕ) : Type 0 where
  pub value : k ≡ sweep_key r
  pub small : start_in (horizontal r) r < 2 ^ 32

-- Each piece has its key in a list.
abbrev pub Keyed : List ℕ → List ℕ → Type 0
Keyed pieces keys = (i : ℕ) → i < count pieces → KeyOf (rect_at pieces i) (get_or keys i 0)

-- A list begins with the indexes of all pieces, in the order of their keys.
pub record Sweep (pieces order keys : List ℕ) : Type 0 where
  pub keyed : Keyed pieces keys
  pub sorted : InOrder (count pieces) keys order

-- The pairs of the order before the places k, l were tried: those that touch are joined, and what is joined hangs together by touching.
abbrev pub SweptTo : List ℕ → ℕ → ℕ → List ℕ → ℕ → ℕ → List ℕ → Type 0
SweptTo pieces across gap order k l p =
    Between (count pieces) (Below (count pieces)) (Swept (λ i j. ⊥) (Touch pieces across gap) order k l) (Touch pieces across gap) p
