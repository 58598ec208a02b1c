-- What the counts of samples say of their level, going down from 255.
use mathlib.Core.Path.{◌≡◌, refl, sym, ap, ◌∙◌}
use mathlib.Core.Logic.{◌⊎◌, inl, inr}
use mathlib.Core.List.{List}
use Prim.Native.Nat.{ℕ, zero, suc, ◌+◌, ◌-◌, ◌/◌, ◌≤◌, ◌<◌}
use native.Mathlib.Nat.{sub-add_cancel}
use native.Mathlib.Omega.{arith}
use lib.Dec.{leb}
use lib.ListN.{length, get_or}
use Rattle.paper.specs.Steps.{many, Tallied}
use Rattle.paper.specs.Median.{median}
use Rattle.paper.proofs.Many.{at_least, at_least_zero}
use Rattle.paper.proofs.Median.{median_is, median_none}

-- half the number, rounded up
abbrev pub upper_half : ℕ → ℕ
upper_half n = n - n / 2

module _ (xs counts : List ℕ) (t : Tallied xs counts) where
  pub brightest : get_or counts 255 0 ≡ many (leb 255) xs
  brightest = omega (arith, t.tally 255 (omega arith), at_least 255 xs, t.bytes)

  -- while too few are at least v, v is above 0
  pub above_zero : (v : ℕ) → many (leb v) xs < upper_half (length xs) → 1 ≤ v
  above_zero zero h = absurd (omega (arith, at_least_zero xs, h))
  above_zero (suc v) h = omega arith

  pub next_down : (v : ℕ) → 1 ≤ v → v ≤ 255 → many (leb v) xs + get_or counts (v - 1) 0 ≡ many (leb (v - 1)) xs
  next_down v p l = omega (arith, t.tally (v - 1) (omega arith), at_least (v - 1) xs, ap (λ (u : ℕ). many (leb u) xs) (sub-add_cancel p))

  -- the first level that half the samples reach, rounded up
  pub level_is : (v : ℕ) → upper_half (length xs) ≤ many (leb v) xs → (v ≡ 255) ⊎ (many (leb (v + 1)) xs < upper_half (length xs)) → v ≡ median xs
  level_is v enough (inr fewer) = sym (median_is v xs enough fewer)
  level_is v enough (inl e) = go (length xs) refl
    where
      go : (n : ℕ) → length xs ≡ n → v ≡ median xs
      go zero n = e ∙ sym (median_none xs n)
      go (suc n) f = sym (median_is v xs enough (omega (arith, t.bytes, ap (λ (u : ℕ). many (leb (u + 1)) xs) e)))
