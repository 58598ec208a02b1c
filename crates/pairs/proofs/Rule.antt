-- One pair more: the rule of k + 1 pairs is that of k pairs and pair k.
use mathlib.Core.Path.{◌≡◌, refl, sym, ap, ◌∙◌}
use mathlib.Core.Bool.{Bool, true, false, ◌&&◌, ◌||◌}
use mathlib.Core.Logic.{◌⊎◌, inl, inr}
use mathlib.Core.List.{List, [], ◌∷◌, ◌++◌}
use Prim.Native.Nat.{ℕ, ◌+◌, ◌*◌, ◌<◌}
use native.Mathlib.Numerals.{add-one}
use lib.Dec.{eqb}
use lib.ListN.{get_or}
use borrow.Author.Tests.{eqb-true, eq-eqb}
use Rattle.lists.specs.Lists.{below, any}
use Rattle.lists.proofs.Every.{and_first, and_second, and_both}
use Rattle.sets.specs.Closed.{Below}
use Rattle.sets.specs.Steps.{Joins, Joined}
use Rattle.sets.proofs.Joins.{joins_more}
use Rattle.pairs.specs.Pairs.{paired, Paired}

or_cases : (a b : Bool) → a || b ≡ true → (a ≡ true) ⊎ (b ≡ true)
or_cases true b h = inl refl
or_cases false b h = inr h

or_first : {a : Bool} (b : Bool) → a ≡ true → a || b ≡ true
or_first b h = simp h

or_second : (a : Bool) {b : Bool} → b ≡ true → a || b ≡ true
or_second true h = refl
or_second false h = h

any_last : (q : ℕ → Bool) (xs : List ℕ) (x : ℕ) → any q (xs ++ (x ∷ [])) ≡ any q xs || q x
any_last q [] x = or_false (q x)
  where
    or_false : (b : Bool) → b || false ≡ b
    or_false true = refl
    or_false false = refl
any_last q (y ∷ ys) x = ap (λ (b : Bool). q y || b) (any_last q ys x) ∙ or_assoc (q y) (any q ys) (q x)
  where
    or_assoc : (a b c : Bool) → a || (b || c) ≡ (a || b) || c
    or_assoc true b c = refl
    or_assoc false b c = refl

-- is it pair k?
abbrev is_pair : List ℕ → ℕ → ℕ → ℕ → Bool
is_pair pairs k i j = eqb (get_or pairs (2 * k) 0) i && eqb (get_or pairs (2 * k + 1) 0) j

more : (pairs : List ℕ) (k i j : ℕ) → paired pairs (k + 1) i j ≡ paired pairs k i j || is_pair pairs k i j
more pairs k i j = ap (λ (m : ℕ). paired pairs m i j) (add-one k) ∙ any_last (λ h. is_pair pairs h i j) (below k) k

pub pair_joined : {n : ℕ} {p q : List ℕ} (pairs : List ℕ) (k : ℕ) → get_or pairs (2 * k) 0 < n → get_or pairs (2 * k + 1) 0 < n
    → Joins n (Below n) (Paired pairs k) p → Joined n p (get_or pairs (2 * k) 0) (get_or pairs (2 * k + 1) 0) true q → Joins n (Below n) (Paired pairs (k + 1)) q
pair_joined {n} pairs k A B J Q =
    let a = get_or pairs (2 * k) 0 in
    let b = get_or pairs (2 * k + 1) 0 in
    joins_more J (λ i j di dj h. more pairs k i j ∙ or_first (is_pair pairs k i j) h) A B true Q (λ i j di dj h. split i j (or_cases (paired pairs k i j) (is_pair pairs k i j) (sym (more pairs k i j) ∙ h)))
    (λ e. inl (more pairs k a b ∙ or_second (paired pairs k a b) (and_both (eq-eqb a a refl) (eq-eqb b b refl))))
  where
    split : (i j : ℕ) → (paired pairs k i j ≡ true) ⊎ (is_pair pairs k i j ≡ true) → Paired pairs k i j ⊎ ((i ≡ get_or pairs (2 * k) 0) × (j ≡ get_or pairs (2 * k + 1) 0) × (true ≡ true))
    split i j (inl h) = inl h
    split i j (inr h) =
        let a = eqb (get_or pairs (2 * k) 0) i in
        let b = eqb (get_or pairs (2 * k + 1) 0) j in
        inr (sym (eqb-true (get_or pairs (2 * k) 0) i (and_first a b h)), sym (eqb-true (get_or pairs (2 * k + 1) 0) j (and_second a b h)), refl)
