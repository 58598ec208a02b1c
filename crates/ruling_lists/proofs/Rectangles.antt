-- The smallest rectangle around pieces that lie in a picture lies in it.
use mathlib.Core.List.{List}
use Prim.Native.Nat.{ℕ, ◌≤◌, ◌<◌}
use native.Mathlib.Omega.{arith}
use lib.ListN.{length}
use Rattle.lists.specs.Lists.{In}
use Rattle.rects.specs.declared.Rect.{Rect}
use Rattle.rects.specs.Rects.{count}
use Rattle.rects.specs.Steps.{AllInside}
use Rattle.rects.specs.Around.{around}
use Rattle.rects.proofs.Around.{around_inside}
use Rattle.rects.proofs.Questions.{Inside}
use Rattle.pieces.specs.Steps.{Ordered}

pub inside_ordered : {w h : ℕ} {r : Rect} → Inside w h r → Ordered r
inside_ordered i = record { wide = i.wide; high = i.high }

pub all_wider : {w h v g : ℕ} (pieces : List ℕ) → w ≤ v → h ≤ g → AllInside w h pieces → AllInside v g pieces
all_wider pieces a b inside k l =
    let i = inside k l in record { wide = i.wide; high = i.high; right = omega (arith, i.right); bottom = omega (arith, i.bottom) }

pub set_inside : {w h : ℕ} (pieces set : List ℕ) → AllInside w h pieces → 0 < length set → ((i : ℕ) → In set i → i < count pieces) → Inside w h (around pieces set)
set_inside pieces set inside some known = around_inside pieces set some (λ i m. inside i (known i m))
