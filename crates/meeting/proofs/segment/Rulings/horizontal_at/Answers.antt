-- `Rulings::horizontal_at` meets its contract: only direction 0 is horizontal.
use mathlib.Core.Path.{◌≡◌, refl, ap, ◌∙◌}
use mathlib.Core.Bool.{Bool, true, false, cond, false≢true}
use Prim.Native.Nat.{ℕ, ◌+◌}
use lib.Dec.{eqb}
use Rattle.rects.specs.declared.Rect.{Rect}
use Rattle.meeting.specs.declared.segment.Segment.{Segment}
use Rattle.meeting.specs.Segments.{segment_of}
use Rattle.meeting.proofs.segment.Rulings.horizontal_at.Goals as goal

horizontal_same : (r : Rect) (d : ℕ) → (segment_of r d).horizontal ≡ true → segment_of r 0 ≡ segment_of r d
unfolding segment_of
horizontal_same r d e = go (eqb d 0) e
  where
    lying : Segment
    lying = record { horizontal = true; start = r.x0; end = r.x1; centre2 = r.y0 + r.y1 }

    upright : Segment
    upright = record { horizontal = false; start = r.y0; end = r.y1; centre2 = r.x0 + r.x1 }

    go : (t : Bool) → (cond t lying upright).horizontal ≡ true → lying ≡ cond t lying upright
    go true e = refl
    go false e = absurd (false≢true e)

same : {a : Segment} {r q : Rect} (d : ℕ) → (segment_of q d).horizontal ≡ true → a ≡ segment_of r 0 → r ≡ q → a ≡ segment_of q d
same {q = q} d e f g = f ∙ ap (λ (x : Rect). segment_of x 0) g ∙ horizontal_same q d e

pub returns : goal.returns
returns c = same _ c.requires.1 c.segment_of.ensures c.rect_at.ensures.0
