-- What `every_below` says, both ways, and where it fails.
use mathlib.Core.Path.{◌≡◌, refl, sym, ap, ◌∙◌, subst}
use mathlib.Core.Logic.{inl, inr}
use mathlib.Core.Bool.{Bool, true, false, ◌&&◌, true≢false}
use Prim.Native.Nat.{ℕ, zero, suc, ◌+◌, ◌<◌}
use native.Mathlib.Numerals.{add-one}
use native.Mathlib.Nat.{not-suc-le-zero, le_of_suc-le-suc, le_step, lt-suc_self, eq-or-lt_of_le}
use Rattle.lists.specs.Lists.{every_below}

pub and_both : {a b : Bool} → a ≡ true → b ≡ true → a && b ≡ true
and_both h k = simp (h, k)

pub and_first : (a b : Bool) → a && b ≡ true → a ≡ true
and_first true b h = refl
and_first false b h = h

pub and_second : (a b : Bool) → a && b ≡ true → b ≡ true
and_second true b h = h
and_second false b h = absurd (true≢false (sym h))

and_false : (a : Bool) → a && false ≡ false
and_false true = refl
and_false false = refl

pub every_at : (n : ℕ) (q : ℕ → Bool) → every_below n q ≡ true → (k : ℕ) → k < n → q k ≡ true
unfolding every_below
every_at zero q h k l = absurd (not-suc-le-zero l)
every_at (suc n) q h k l = elim (eq-or-lt_of_le (le_of_suc-le-suc l)) [ inl e ↦ subst (λ (j : ℕ). q j ≡ true) (sym e) (and_second (every_below n q) (q n) h) | inr g ↦ every_at n q (and_first (every_below n q) (q n) h) k g ]

pub every_of : (n : ℕ) (q : ℕ → Bool) → ((k : ℕ) → k < n → q k ≡ true) → every_below n q ≡ true
unfolding every_below
every_of zero q h = refl
every_of (suc n) q h = and_both (every_of n q (λ k l. h k (le_step l))) (h n (lt-suc_self n))

pub every_fails : (n : ℕ) (q : ℕ → Bool) (k : ℕ) → k < n → q k ≡ false → every_below n q ≡ false
unfolding every_below
every_fails zero q k l h = absurd (not-suc-le-zero l)
every_fails (suc n) q k l h =
    elim (eq-or-lt_of_le (le_of_suc-le-suc l)) [
      | inl e ↦ ap (λ (b : Bool). every_below n q && b) (subst (λ (j : ℕ). q j ≡ false) e h) ∙ and_false (every_below n q)
      | inr g ↦ ap (λ (b : Bool). b && q n) (every_fails n q k g h)
    ]

pub every_more : (n : ℕ) (q : ℕ → Bool) → every_below (n + 1) q ≡ every_below n q && q n
unfolding every_below
every_more n q = ap (λ (k : ℕ). every_below k q) (add-one n)
