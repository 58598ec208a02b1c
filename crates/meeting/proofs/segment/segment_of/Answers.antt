-- `segment::segment_of` meets its contract, by direction.
use mathlib.Core.Path.{◌≡◌, refl}
use Prim.Native.Nat.{ℕ, ◌+◌}
use mathlib.Core.Bool.{true, false}
use borrow.Author.Tests.{eq-eqb, ne_eqb}
use Rattle.rects.specs.declared.Rect.{Rect}
use Rattle.meeting.specs.Segments.{segment_of}
use Rattle.meeting.proofs.segment.segment_of.Goals as goal

lying : (r : Rect) (d : ℕ) → d ≡ 0 → record { horizontal = true; start = r.x0; end = r.x1; centre2 = r.y0 + r.y1 } ≡ segment_of r d
unfolding segment_of
lying r d h = rw (eq-eqb d 0 h) refl

standing : (r : Rect) (d : ℕ) → (d ≡ 0 → ⊥) → record { horizontal = false; start = r.y0; end = r.y1; centre2 = r.x0 + r.x1 } ≡ segment_of r d
unfolding segment_of
standing r d h = rw (ne_eqb d 0 h) refl

pub returns-then-direction-eq0 : goal.returns-then-direction-eq0
returns-then-direction-eq0 c = lying c.args.r c.args.direction c.if-direction-eq0.true

pub returns : goal.returns
returns c = standing c.args.r c.args.direction c.if-direction-eq0.false
