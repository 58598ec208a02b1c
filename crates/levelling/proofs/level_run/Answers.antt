-- `levelling::level_run` meets its contract: off the page the run is white, and on it the run of a page row.
use mathlib.Core.Path.{◌≡◌, ap, ◌∙◌}
use mathlib.Core.Logic.{inl, inr}
use Prim.Native.Nat.{ℕ, ◌+◌, ◌-◌, ◌*◌}
use native.Mathlib.Omega.{arith}
use lib.ListN.{length, take, drop}
use Rattle.levelling.proofs.Paint.{off_page, on_page_lem}
use Rattle.levelling.proofs.level_run.Goals as goal

pub returns-then-y-shear : goal.returns-then-y-shear
returns-then-y-shear c = let a = c.args in off_page a.sides a.gray.now a.shear a.from a.y a.out.now _ (inl (omega arith)) c.whiten.ensures

pub returns-then-sides-row : goal.returns-then-sides-row
returns-then-sides-row c = let a = c.args in off_page a.sides a.gray.now a.shear a.from a.y a.out.now _ (inr (omega arith, omega arith)) c.whiten-then-sides-row.ensures

pub returns : goal.returns
returns c =
    let a = c.args in
    let start = (a.y - a.shear) * a.sides.pw + a.from in
    let n : start + length a.out.now - start ≡ length a.out.now = omega arith in
    on_page_lem a.sides a.gray.now a.shear a.from a.y a.out.now _ (omega arith) (omega arith) c.copy.auto.to (c.copy.ensures ∙ ap (λ (k : ℕ). take k (drop start a.gray.now)) n)
