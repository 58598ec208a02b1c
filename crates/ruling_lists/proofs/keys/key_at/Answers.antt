-- `keys::key_at` meets its contract: a set that is listed has pieces, and so a rectangle around them.
use mathlib.Core.Path.{◌≡◌, ap, ◌∙◌}
use mathlib.Core.List.{List}
use Prim.Native.Nat.{ℕ, ◌<◌}
use lib.ListN.{length}
use Rattle.lists.specs.Lists.{In}
use Rattle.rects.specs.declared.Rect.{Rect}
use Rattle.rects.specs.Rects.{count}
use Rattle.rects.specs.Steps.{AllInside}
use Rattle.rects.specs.Around.{around}
use Rattle.rects.proofs.Questions.{Inside}
use Rattle.listings.specs.Listed.{set_of}
use Rattle.ruling_lists.specs.Rulings.{ruling_key}
use Rattle.ruling_lists.specs.Steps.{Parts}
use Rattle.ruling_lists.proofs.Rectangles.{set_inside}
use Rattle.ruling_lists.proofs.keys.key_at.Goals as goal

-- a set, as it was read
some : (pieces : List ℕ) (f : ℕ → List ℕ) (s : List ℕ) {n k : ℕ} → Parts pieces f n → k < n → s ≡ f k → (0 < length s) × ((i : ℕ) → In s i → i < count pieces)
some pieces f s {n} {k} P l e = rw e (P.some k l, λ i m. P.known k i l m)

inside : (pieces : List ℕ) (f : ℕ → List ℕ) (s : List ℕ) {n k : ℕ} {r : Rect} → AllInside 8192 8192 pieces → Parts pieces f n → k < n → s ≡ f k → r ≡ around pieces s → Inside 8192 8192 r
inside pieces f s A P l e q = let t = some pieces f s P l e in rw q (set_inside pieces s A t.0 t.1)

pub key_of-requires : goal.key_of-requires
key_of-requires c =
    inside c.args.pieces.now (set_of c.args.sets.now) c.at.result.now c.requires.0 c.requires.1 c.requires.2 c.at.ensures c.bounding.ensures

pub returns : goal.returns
returns c = c.key_of.ensures ∙ ap ruling_key (c.bounding.ensures ∙ ap (around c.args.pieces.now) c.at.ensures)
