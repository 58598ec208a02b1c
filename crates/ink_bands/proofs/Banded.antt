-- Places that are passed over since none of them passes: the first that passes is looked for past them, and the last before them.
use mathlib.Core.Path.{◌≡◌, sym, ap, ◌∙◌}
use mathlib.Core.Bool.{Bool, false}
use Prim.Native.Nat.{ℕ, zero, suc, ◌-◌, ◌≤◌, ◌<◌}
use native.Mathlib.Decide.{ℕ_discrete}
use native.Mathlib.Omega.{arith}
use Rattle.ink.specs.Places.{first_from, first_place, last_end}
use native.Mathlib.Numerals.{add-one}
use Rattle.ink.proofs.Places.{first_passed, last_earlier}

-- the first that passes is looked for past those that don't
pub first_past : (q : ℕ → Bool) (n k : ℕ) → k ≤ n → ((i : ℕ) → i < k → q i ≡ false) → first_from q k (n - k) ≡ first_place q n
first_past q n zero h none = let e : n - 0 ≡ n = omega arith in ap (first_place q) e
first_past q n (suc k) h none =
    rw (sym (add-one k)) (sym (first_passed q n k (omega arith) (none k (omega arith))) ∙ first_past q n k (omega arith) (λ i l. none i (omega arith)))

-- and the last before those that don't
pub last_before : (q : ℕ → Bool) (n k : ℕ) → k ≤ n → ((i : ℕ) → k ≤ i → i < n → q i ≡ false) → last_end q k ≡ last_end q n
last_before q zero k h none = let e : k ≡ 0 = omega arith in ap (last_end q) e
last_before q (suc n) k h none =
    elim (ℕ_discrete k (suc n)) [
      | yes e ↦ ap (last_end q) e
      | no e ↦ last_before q n k (omega arith) (λ i l m. none i l (omega arith)) ∙ sym (last_earlier q n (none n (omega arith) (omega arith)))
    ]
