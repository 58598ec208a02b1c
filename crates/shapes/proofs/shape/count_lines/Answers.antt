-- `shape::count_lines` meets its contract: the positions are those that were gathered in front.
use mathlib.Core.Path.{◌≡◌, sym, ap, ◌∙◌}
use mathlib.Core.Bool.{Bool}
use mathlib.Core.List.{List}
use Prim.Native.Nat.{ℕ, ◌/◌, ◌≤◌}
use native.Mathlib.Omega.{arith}
use lib.ListN.{length, take, length-map}
use lib.Seq.{length-take-le}
use Rattle.lines.specs.Lines.{sorted_positions, line_count}
use Rattle.lines.specs.Steps.{Room, Numbered}
use Rattle.lines.proofs.Sorted.{lines_few}
use Rattle.meeting.specs.declared.segment.Segment.{Segment}
use Rattle.shapes.specs.Shapes.{lines_of, members, positions}
use Rattle.shapes.specs.Steps.{Collected, LinesCounted}
use Rattle.shapes.proofs.shape.count_lines.Goals as goal

module _ {h : Bool} {s : ℕ → Segment} {set keys : List ℕ} {n : ℕ} (C : Collected h s set keys n) where
  room : {o w : List ℕ} → n ≤ length keys → length set ≤ length o → length set ≤ length w → length set ≤ 4096 → Room (length (take n keys)) o w
  room l a b k =
      let e : length (take n keys) ≡ n = length-take-le n keys l in
      record { small = omega (arith, C.short); order = omega (arith, C.short); numbers = omega (arith, C.short) }

  counted : {cluster l : ℕ} {o o' w' : List ℕ} → Numbered (take n keys) cluster o o' w' l → LinesCounted cluster h s set n l
  unfolding lines_of
  counted {cluster} {l} N =
      let size : length (positions h s set) ≡ n = length-map (members h s set) (λ i. (s i).centre2 / 2) ∙ sym C.count in
      let lines : l ≡ line_count cluster (positions h s set) = N.count ∙ ap (line_count cluster) C.keys in
      record {
        rulings = C.count;
        lines = lines;
        few = omega (arith, C.short, lines_few cluster (sorted_positions (positions h s set)) (length (positions h s set)));
      }

pub returns : goal.returns
returns c = counted c.collect-n.ensures c.lines-lines.ensures
