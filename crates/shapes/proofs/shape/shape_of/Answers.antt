-- `shape::shape_of` meets its contract: the four tests are the minima and the lines.
use mathlib.Core.Path.{◌≡◌, refl, ◌∙◌}
use mathlib.Core.Bool.{Bool, true, false, ◌&&◌}
use mathlib.Core.List.{List}
use Prim.Native.Nat.{ℕ}
use lib.Dec.{leb}
use Rattle.meeting.specs.declared.segment.Segment.{Segment}
use Rattle.shapes.specs.declared.limits.Limits.{Limits}
use Rattle.meeting.specs.Segments.{ruling}
use Rattle.shapes.specs.Shapes.{is_table}
use Rattle.shapes.specs.Steps.{LinesCounted, Shaped}
use Rattle.shapes.proofs.shape.shape_of.Goals as goal

grouped : (a b c d : Bool) → a && b && c && d ≡ (a && b) && (c && d)
grouped true true c d = refl
grouped true false c d = refl
grouped false b c d = refl

shaped : (lim : Limits) (s : ℕ → Segment) (set : List ℕ) {h k v l : ℕ} {t : Bool} → LinesCounted lim.cluster true s set h k → LinesCounted lim.cluster false s set v l
    → t ≡ leb lim.min_horizontal h && leb lim.min_vertical v && leb 2 k && leb 2 l → Shaped lim s set t k l
unfolding is_table
shaped lim s set {h} {k} {v} {l} H W e =
    record {
      table = e ∙ grouped (leb lim.min_horizontal h) (leb lim.min_vertical v) (leb 2 k) (leb 2 l) ∙ rw (H.rulings, W.rulings, H.lines, W.lines) refl;
      rows = H.lines;
      columns = W.lines;
      few = (H.few, W.few);
    }

pub returns : goal.returns
returns c =
    shaped c.args.limits (ruling c.args.rulings.now) c.args.set.now c.count_lines-h.ensures c.count_lines-v.ensures c.is_table.ensures
