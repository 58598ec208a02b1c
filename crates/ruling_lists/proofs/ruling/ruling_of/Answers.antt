-- `ruling::ruling_of` meets its contract, field by field.
use mathlib.Core.Path.{◌≡◌}
use mathlib.Core.List.{List}
use Prim.Native.Nat.{ℕ, ◌<◌}
use native.Mathlib.Omega.{arith}
use lib.ListN.{length, get_or}
use Rattle.lists.specs.Lists.{In}
use Rattle.lists.proofs.Keep.{at_in}
use Rattle.rects.specs.declared.Rect.{Rect}
use Rattle.rects.specs.Rects.{count, rect_at}
use Rattle.rects.specs.Around.{around}
use Rattle.rects.proofs.Questions.{has_numbers}
use Rattle.paper.specs.Steps.{OnPicture}
use Rattle.paper.specs.Pixels.{Raster}
use Rattle.pieces.specs.Steps.{Ordered}
use Rattle.ruling_lists.specs.Steps.{Picture}
use Rattle.ruling_lists.proofs.Rectangles.{set_inside, inside_ordered}
use Rattle.ruling_lists.proofs.ruling.ruling_of.Goals as goal

module _ {raster : Raster} (pieces set : List ℕ) (P : Picture raster pieces) (some : 0 < length set) (known : (i : ℕ) → In set i → i < count pieces) where
  first : get_or set 0 0 < count pieces
  first = known (get_or set 0 0) (at_in set 0 some)

  first_ordered : {r : Rect} → r ≡ rect_at pieces (get_or set 0 0) → Ordered r
  first_ordered e = rw e (inside_ordered (P.inside (get_or set 0 0) first))

  around_ordered : {r : Rect} → r ≡ around pieces set → Ordered r
  around_ordered e = rw e (inside_ordered (set_inside pieces set P.inside some known))

  on_picture : {r : Rect} → r ≡ around pieces set → OnPicture raster r
  on_picture e = rw e (record { full = P.full; narrow = P.narrow; low = P.low; inside = set_inside pieces set P.inside some known })

pub rect_at-first-requires : goal.rect_at-first-requires
rect_at-first-requires c =
    has_numbers (length c.args.pieces.now) (get_or c.args.set.now 0 0) (first c.args.pieces.now c.args.set.now c.requires.0 c.requires.1 c.requires.2)

pub is_horizontal-horizontal-requires : goal.is_horizontal-horizontal-requires
is_horizontal-horizontal-requires c =
    let f = first_ordered c.args.pieces.now c.args.set.now c.requires.0 c.requires.1 c.requires.2 c.rect_at-first.ensures in
    let r = around_ordered c.args.pieces.now c.args.set.now c.requires.0 c.requires.1 c.requires.2 c.bounding-rect.ensures in
    record { wide = omega (arith, f.wide, r.wide); high = omega (arith, f.high, r.high) }

pub contrast-contrast-requires : goal.contrast-contrast-requires
contrast-contrast-requires c =
    on_picture c.args.pieces.now c.args.set.now c.requires.0 c.requires.1 c.requires.2 c.bounding-rect.ensures
