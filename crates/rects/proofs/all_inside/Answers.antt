-- `rects::all_inside` meets its contract: every rectangle below k is inside.
use mathlib.Core.Path.{◌≡◌, refl, sym, ◌∙◌}
use mathlib.Core.Bool.{Bool, true, false, ◌&&◌, true≢false}
use Prim.Native.Nat.{ℕ, ◌+◌, ◌≤◌}
use native.Mathlib.Nat.{lt_of_lt_of_le}
use native.Mathlib.Omega.{arith}
use Rattle.lists.specs.Lists.{every_below}
use Rattle.lists.proofs.Every.{every_at, every_of}
use Rattle.rects.specs.Rects.{count, inside, rect_at}
use Rattle.rects.proofs.all_inside.Goals as goal

-- where not all before a place pass, not all before a later one do
none_later : (m n : ℕ) (q : ℕ → Bool) → m ≤ n → every_below m q ≡ false → false ≡ every_below n q
none_later m n q l h = go (every_below n q) refl
  where
    go : (b : Bool) → every_below n q ≡ b → false ≡ b
    go false e = refl
    go true e = absurd (true≢false (sym (every_of m q (λ k i. every_at n q e k (lt_of_lt_of_le i l))) ∙ h))

fails : (a r : Bool) → r ≡ false → a && r ≡ false
fails true r h = h
fails false r h = refl

pub loop-k-init : goal.loop-k-init
unfolding every_below
loop-k-init c = (omega arith, refl)

pub returns-then-not-part_inside : goal.returns-then-not-part_inside
returns-then-not-part_inside c =
    let a = c.args in
    let q : ℕ → Bool = λ k. inside a.w a.h (rect_at a.rects.now k) in
    none_later (c.loop-k.k + c.min.result) (count a.rects.now) q (omega (arith, c.loop-k-test.true)) (c.part_inside.ensures ∙ fails (every_below c.loop-k.k q) c.part_inside.result c.if-not-part_inside.true)
