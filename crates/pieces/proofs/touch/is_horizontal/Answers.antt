-- `touch::is_horizontal` meets its contract: one more on both sides changes nothing.
use mathlib.Core.Path.{◌≡◌, refl, sym}
use mathlib.Core.Bool.{Bool, true, false}
use Prim.Native.Nat.{ℕ, ◌+◌, ◌-◌}
use native.Mathlib.Omega.{arith}
use lib.Dec.{leb}
use borrow.Author.Tests.{leb-true, leb-false, le-leb, lt-leb}
use Rattle.pieces.specs.Pieces.{horizontal}
use Rattle.pieces.proofs.touch.is_horizontal.Goals as goal

one_more : (a b : ℕ) → leb a b ≡ leb (a + 1) (b + 1)
one_more a b = go (leb a b) refl
  where
    go : (t : Bool) → leb a b ≡ t → t ≡ leb (a + 1) (b + 1)
    go true e = sym (le-leb (a + 1) (b + 1) (omega (arith, leb-true a b e)))
    go false e = sym (lt-leb (a + 1) (b + 1) (omega (arith, leb-false a b e)))

pub returns : goal.returns
unfolding horizontal
returns c = let r = c.args.r in one_more (r.y1 - r.y0) (r.x1 - r.x0)
