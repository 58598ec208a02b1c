-- `segment::joins_end` meets its contract, part by part.
use mathlib.Core.Path.{◌≡◌, refl}
use mathlib.Core.Bool.{Bool, true, ◌&&◌}
use Prim.Native.Nat.{ℕ, ◌+◌, ◌*◌}
use native.Mathlib.Omega.{arith}
use lib.Dec.{leb}
use Rattle.meeting.specs.declared.segment.Segment.{Segment}
use Rattle.meeting.specs.Segments.{opposite, span_holds, joins_end}
use Rattle.rects.specs.Rects.{distance}
use Rattle.meeting.proofs.segment.joins_end.Goals as goal

parts : {y : Bool} {d : ℕ} (join e : ℕ) (a b : Segment) → opposite a b ≡ true → d ≡ distance (2 * e) b.centre2
    → y ≡ span_holds join b a.centre2 → leb d (2 * join + 2) && y ≡ joins_end join e a b
unfolding joins_end
parts join e a b o g h = rw (o, g, h) refl

pub returns : goal.returns
returns c =
    let a = c.args in
    let apart : c.abs_diff.result ≡ distance (2 * a.end) a.b.centre2 = omega (arith, c.abs_diff.ensures) in
    rw c.from-3.ensures (parts a.join a.end a.a a.b c.requires apart c.span_holds.ensures)
