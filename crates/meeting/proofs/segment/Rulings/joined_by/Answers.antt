-- `Rulings::joined_by` meets its contract: a ruling of the same direction joins no end.
use mathlib.Core.Path.{◌≡◌, refl, sym, ap, ◌∙◌}
use mathlib.Core.Bool.{Bool, true, false, beq, cond, not, false≢true}
use Prim.Native.Nat.{ℕ, ◌+◌}
use lib.Dec.{eqb}
use lib.ListN.{get_or}
use Rattle.rects.specs.declared.Rect.{Rect}
use Rattle.rects.specs.Rects.{rect_at}
use Rattle.meeting.specs.declared.segment.Segment.{Segment}
use Rattle.meeting.specs.Segments.{segment_of, opposite, joins_end}
use Rattle.meeting.proofs.segment.Rulings.joined_by.Goals as goal

lies_by : (r : Rect) (d : ℕ) → (segment_of r d).horizontal ≡ eqb d 0
unfolding segment_of
lies_by r d = go (eqb d 0)
  where
    lying : Segment
    lying = record { horizontal = true; start = r.x0; end = r.x1; centre2 = r.y0 + r.y1 }

    upright : Segment
    upright = record { horizontal = false; start = r.y0; end = r.y1; centre2 = r.x0 + r.x1 }

    go : (t : Bool) → (cond t lying upright).horizontal ≡ t
    go true = refl
    go false = refl

not_opposite : (h t : Bool) → beq t h ≡ true → cond h (not t) t ≡ false
not_opposite true true e = refl
not_opposite true false e = absurd (false≢true e)
not_opposite false true e = absurd (false≢true e)
not_opposite false false e = refl

are_opposite : (h t : Bool) → beq t h ≡ false → cond h (not t) t ≡ true
are_opposite true true e = absurd (false≢true (sym e))
are_opposite true false e = refl
are_opposite false true e = refl
are_opposite false false e = absurd (false≢true (sym e))

across : {b : Segment} (a : Segment) (r : Rect) (d : ℕ) → beq (eqb d 0) a.horizontal ≡ false → b ≡ segment_of r d → opposite a b ≡ true
across a r d f e =
    ap (λ (x : Segment). opposite a x) e ∙ ap (λ (t : Bool). cond a.horizontal (not t) t) (lies_by r d) ∙ are_opposite a.horizontal (eqb d 0) f

alike : (join e : ℕ) (a : Segment) (r : Rect) (d : ℕ) → beq (eqb d 0) a.horizontal ≡ true → false ≡ joins_end join e a (segment_of r d)
unfolding joins_end
alike join e a r d f =
    let o : opposite a (segment_of r d) ≡ false = ap (λ (t : Bool). cond a.horizontal (not t) t) (lies_by r d) ∙ not_opposite a.horizontal (eqb d 0) f in
    rw o refl

pub returns-then-direction-a : goal.returns-then-direction-a
returns-then-direction-a c =
    alike c.args.join c.args.end c.args.a (rect_at c.args.self.now.rects (get_or c.args.self.now.chosen c.args.j 0)) _ (rw c.direction.ensures at c.if-direction-a.true)

pub joins_end-requires : goal.joins_end-requires
joins_end-requires c =
    across c.args.a (rect_at c.args.self.now.rects (get_or c.args.self.now.chosen c.args.j 0)) _ (rw c.direction.ensures at c.if-direction-a.false) c.at.ensures
