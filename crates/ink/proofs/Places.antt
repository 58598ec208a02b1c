-- The first and the last place that passes: what they are, and what a search from either end finds.
use mathlib.Core.Path.{◌≡◌, refl, sym, ap, ◌∙◌}
use mathlib.Core.Bool.{Bool, true, false, cond, true≢false}
use mathlib.Core.Logic.{◌⊎◌, inl, inr, ⊎_elim}
use Prim.Native.Nat.{ℕ, zero, suc, ◌+◌, ◌-◌, ◌≤◌, ◌<◌, zero-le}
use native.Mathlib.Nat.{not-suc-le-zero, le_of_suc-le-suc, eq-or-lt_of_le}
use native.Mathlib.Numerals.{add-one}
use native.Mathlib.Omega.{arith}
use Rattle.ink.specs.Places.{first_from, first_place, last_end}
use Rattle.ink.specs.Steps.{First, LastEnd}

module _ (q : ℕ → Bool) where
  pub first_here : (i k : ℕ) → q i ≡ true → first_from q i (suc k) ≡ i
  unfolding first_from
  first_here i k t = ap (λ (b : Bool). cond b i (first_from q (suc i) k)) t

  pub first_later : (i k : ℕ) → q i ≡ false → first_from q i (suc k) ≡ first_from q (suc i) k
  unfolding first_from
  first_later i k f = ap (λ (b : Bool). cond b i (first_from q (suc i) k)) f

  pub last_here : (n : ℕ) → q n ≡ true → last_end q (suc n) ≡ suc n
  unfolding last_end
  last_here n t = ap (λ (b : Bool). cond b (suc n) (last_end q n)) t

  pub last_earlier : (n : ℕ) → q n ≡ false → last_end q (suc n) ≡ last_end q n
  unfolding last_end
  last_earlier n f = ap (λ (b : Bool). cond b (suc n) (last_end q n)) f

  -- ---- a search from either end

  pub first_found : (n k : ℕ) → k < n → q k ≡ true → first_from q k (n - k) ≡ k
  first_found n k l t =
      let e : n - k ≡ suc (n - suc k) = omega arith in
      ap (first_from q k) e ∙ first_here k (n - suc k) t

  pub first_passed : (n k : ℕ) → k < n → q k ≡ false → first_from q k (n - k) ≡ first_from q (k + 1) (n - (k + 1))
  first_passed n k l f =
      let e : n - k ≡ suc (n - suc k) = omega arith in
      ap (first_from q k) e ∙ first_later k (n - suc k) f ∙ rw (add-one k)

  pub first_none : (n k : ℕ) → n ≤ k → first_from q k (n - k) ≡ k
  unfolding first_from
  first_none n k l =
      let e : n - k ≡ 0 = omega arith in
      ap (first_from q k) e

  pub last_found : (k : ℕ) → 0 < k → q (k - 1) ≡ true → last_end q k ≡ k
  last_found k l t =
      let e : k ≡ suc (k - 1) = omega arith in
      ap (last_end q) e ∙ last_here (k - 1) t ∙ sym e

  pub last_passed : (k : ℕ) → 0 < k → q (k - 1) ≡ false → last_end q k ≡ last_end q (k - 1)
  last_passed k l f =
      let e : k ≡ suc (k - 1) = omega arith in
      ap (last_end q) e ∙ last_earlier (k - 1) f

  pub last_none : (k : ℕ) → k ≤ 0 → last_end q k ≡ 0
  unfolding last_end
  last_none k l =
      let e : k ≡ 0 = omega arith in
      ap (last_end q) e

  -- ---- what they are

  record From (i k f : ℕ) : Type 0 where
    at_least : i ≤ f
    at_most : f ≤ i + k
    before : (j : ℕ) → i ≤ j → j < f → q j ≡ false
    passes : f < i + k → q f ≡ true

  from : (k i : ℕ) → From i k (first_from q i k)
  unfolding first_from
  from zero i = record { at_least = omega arith; at_most = omega arith; before = λ j a b. absurd (omega arith); passes = λ l. absurd (omega arith) }
  from (suc k) i = go (from k (suc i)) (q i) refl
    where
      go : From (suc i) k (first_from q (suc i) k) → (b : Bool) → q i ≡ b → From i (suc k) (cond b i (first_from q (suc i) k))
      go F true e = record { at_least = omega arith; at_most = omega arith; before = λ j a b. absurd (omega arith); passes = λ l. e }
      go F false e =
          record {
            at_least = omega (arith, F.at_least);
            at_most = omega (arith, F.at_most);
            before = λ j a b. ⊎_elim (λ (h : i ≡ j). sym (ap q h) ∙ e) (λ (h : i < j). F.before j h b) (eq-or-lt_of_le a);
            passes = λ l. F.passes (omega arith);
          }

  pub first_is : (n : ℕ) → First q n (first_place q n)
  first_is n = let F = from n 0 in record { within = omega (arith, F.at_most); before = λ i l. F.before i zero-le l; passes = λ l. F.passes (omega arith) }

  pub last_is : (n : ℕ) → LastEnd q n (last_end q n)
  unfolding last_end
  last_is zero = record { within = zero-le; past = λ i a b. absurd (not-suc-le-zero b); passes = λ i e. absurd (omega arith) }
  last_is (suc n) = go (last_is n) (q n) refl
    where
      go : LastEnd q n (last_end q n) → (b : Bool) → q n ≡ b → LastEnd q (suc n) (cond b (suc n) (last_end q n))
      go L true e =
          record {
            within = omega arith;
            past = λ i a b. absurd (omega arith);
            passes = λ i h. let s : i ≡ n = omega arith in ap q s ∙ e;
          }
      go L false e =
          record {
            within = omega (arith, L.within);
            past = λ i a b. ⊎_elim (λ (h : i ≡ n). ap q h ∙ e) (λ (h : i < n). L.past i a h) (eq-or-lt_of_le (le_of_suc-le-suc b));
            passes = λ i h. L.passes i h;
          }

  -- where one place passes, the first and the end of the last stand in order
  pub first_before_end : (n : ℕ) → first_place q n < n → first_place q n < last_end q n
  first_before_end n l =
      let f = first_place q n in
      ⊎_elim (λ (h : f < last_end q n). h) (λ (h : last_end q n ≤ f). absurd (true≢false (sym ((first_is n).passes l) ∙ (last_is n).past f h l))) (split f (last_end q n))
    where
      split : (a b : ℕ) → (a < b) ⊎ (b ≤ a)
      split a zero = inr zero-le
      split a (suc b) = ⊎_elim (λ (h : a < b). inl (omega arith)) (λ (h : b ≤ a). ⊎_elim (λ (e : b ≡ a). inl (omega arith)) (λ (e : b < a). inr e) (eq-or-lt_of_le h)) (split a b)
