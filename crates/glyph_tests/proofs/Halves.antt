-- The inner half of a frame has a place at least.
use Rattle.std.proofs.Common.{◌≡◌, ℕ, ◌*◌, ◌≤◌, max, sym, ap, ◌∙◌, ap₂, mul-le-mul, arith}
use lib.Ieee.{binary64, div}
use Rattle.math.specs.Sum.{whole}
use Rattle.rects.specs.Rects.{width_of, height_of}
use Rattle.rects.specs.declared.Rect.{Rect}
use Rattle.ink.specs.Ink.{Ink, ink_in}
use Rattle.glyph_tests.specs.Tests.{inner_half, inner_ink}

some : {a b : ℕ} → 1 ≤ a → 1 ≤ b → max (a * b) 1 ≡ a * b
some {a} {b} h k = let l : 1 ≤ a * b = mul-le-mul h k in omega arith

pub share_is : (ink : Ink) (f : Rect) {half : Rect} {n a b : ℕ} → half ≡ inner_half f → n ≡ ink_in ink half → a ≡ width_of half → b ≡ height_of half
    → div binary64 (whole n) (whole (a * b)) ≡ inner_ink ink f
unfolding inner_ink
share_is ink f {half} e n a b =
    ap₂ (λ (x y : ℕ). div binary64 (whole x) (whole y)) (n ∙ ap (ink_in ink) e)
    (ap₂ (λ (x y : ℕ). x * y) (a ∙ ap width_of e) (b ∙ ap height_of e) ∙ sym (some {a = width_of (inner_half f)} {b = height_of (inner_half f)} (omega arith) (omega arith)))
