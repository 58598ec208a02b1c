-- `levelling::level_pixel` meets its contract: off the page white, and on it the pixel.
use mathlib.Core.Path.{sym}
use mathlib.Core.Logic.{inl, inr}
use native.Mathlib.Omega.{arith}
use Rattle.layout.proofs.Shows.{column_on, column_off}
use Rattle.levelling.proofs.level_pixel.Goals as goal

pub returns-then-y-down : goal.returns-then-y-down
returns-then-y-down c = let a = c.args in sym (column_off a.sides a.gray.now a.x a.y a.down (inl (omega arith)))

pub returns-then-sides-row : goal.returns-then-sides-row
returns-then-sides-row c = let a = c.args in sym (column_off a.sides a.gray.now a.x a.y a.down (inr (omega arith, omega arith)))

pub returns : goal.returns
returns c =
    let a = c.args in
    sym (column_on a.sides a.gray.now a.x a.y a.down (omega arith) (omega arith))
