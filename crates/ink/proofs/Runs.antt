-- The longest unbroken run: why the run in hand, with the longest that was seen, is enough.
use mathlib.Core.Path.{◌≡◌, refl, sym, ap, ap₂, ◌∙◌}
use mathlib.Core.Bool.{Bool, true, false, cond, true≢false}
use mathlib.Core.Logic.{◌⊎◌, inl, inr, ⊎_elim}
use Prim.Native.Nat.{ℕ, zero, suc, ◌+◌, ◌-◌, ◌≤◌, ◌<◌, max, zero-le}
use native.Mathlib.Nat.{not-suc-le-zero, le_of_suc-le-suc, eq-or-lt_of_le}
use native.Mathlib.Numerals.{add-one}
use native.Mathlib.Omega.{arith}
use Rattle.ink.specs.Places.{run_before, longest_run}
use Rattle.ink.specs.Steps.{Run, Longest}

module _ (q : ℕ → Bool) where
  pub run_none : run_before q 0 ≡ 0
  unfolding run_before
  run_none = refl

  pub longest_none : longest_run q 0 ≡ 0
  unfolding longest_run run_before
  longest_none = refl

  pub run_more : (n : ℕ) → run_before q (suc n) ≡ cond (q n) (suc (run_before q n)) 0
  unfolding run_before
  run_more n = refl

  pub longest_more : (n : ℕ) → longest_run q (suc n) ≡ max (longest_run q n) (run_before q (suc n))
  unfolding longest_run run_before
  longest_more n = refl

  pub run_le : (n : ℕ) → run_before q n ≤ n
  unfolding run_before
  run_le zero = zero-le
  run_le (suc n) = go (run_le n) (q n)
    where
      go : run_before q n ≤ n → (b : Bool) → cond b (suc (run_before q n)) 0 ≤ suc n
      go l true = omega arith
      go l false = zero-le

  -- the two as a loop meets them
  pub run_next : (k : ℕ) {run run' : ℕ} → run ≡ run_before q k → run' ≡ cond (q k) (suc run) 0 → run' ≡ run_before q (k + 1)
  run_next k e f = rw (add-one k) (f ∙ ap (λ (m : ℕ). cond (q k) (suc m) 0) e ∙ sym (run_more k))

  pub longest_next : (k : ℕ) {best run' best' : ℕ} → best ≡ longest_run q k → run' ≡ run_before q (k + 1) → best' ≡ max best run' → best' ≡ longest_run q (k + 1)
  longest_next k {best} {run'} e f g = rw (add-one k) (g ∙ ap₂ max e (f ∙ ap (run_before q) (add-one k)) ∙ sym (longest_more k))

  -- ---- the run that ends at n

  -- its places pass
  ends_passes : (n i : ℕ) → n - run_before q n ≤ i → i < n → q i ≡ true
  unfolding run_before
  ends_passes zero i a l = absurd (not-suc-le-zero l)
  ends_passes (suc n) i a l = go (ends_passes n) (run_le n) (q n) refl a
    where
      go : ((i : ℕ) → n - run_before q n ≤ i → i < n → q i ≡ true) → run_before q n ≤ n → (b : Bool) → q n ≡ b → suc n - cond b (suc (run_before q n)) 0 ≤ i → q i ≡ true
      go ih r true e h = ⊎_elim (λ (s : i ≡ n). ap q s ∙ e) (λ (s : i < n). ih i (omega arith) s) (eq-or-lt_of_le (le_of_suc-le-suc l))
      go ih r false e h = absurd (omega arith)

  -- and no run that ends there is longer
  ends_most : (n k : ℕ) → k ≤ n → ((i : ℕ) → n - k ≤ i → i < n → q i ≡ true) → k ≤ run_before q n
  unfolding run_before
  ends_most zero k l h = l
  ends_most (suc n) zero l h = zero-le
  ends_most (suc n) (suc k) l h = go (ends_most n k (le_of_suc-le-suc l) (λ i a b. h i (omega arith) (omega arith))) (q n) (h n (omega arith) (omega arith))
    where
      go : k ≤ run_before q n → (b : Bool) → b ≡ true → suc k ≤ cond b (suc (run_before q n)) 0
      go r true e = omega arith
      go r false e = absurd (true≢false (sym e))

  wider : (n k : ℕ) → Run q n k → Run q (suc n) k
  wider n k r = record { start = r.start; within = omega (arith, r.within); passes = r.passes }

  ending : (n : ℕ) → Run q n (run_before q n)
  ending n =
      let k = run_before q n in
      let l = run_le n in
      record { start = n - k; within = omega arith; passes = λ i h. ends_passes n (n - k + i) (omega arith) (omega arith) }

  -- ---- the longest

  pub longest_run_is : (n : ℕ) → Longest q n (longest_run q n)
  unfolding longest_run
  longest_run_is zero = record { run = record { start = 0; within = zero-le; passes = λ i h. absurd (not-suc-le-zero h) }; most = λ l r. omega (arith, r.within) }
  longest_run_is (suc n) = go (longest_run_is n) (longest_run q n) refl (run_before q (suc n)) refl
    where
      go : Longest q n (longest_run q n) → (a : ℕ) → longest_run q n ≡ a → (b : ℕ) → run_before q (suc n) ≡ b → Longest q (suc n) (max a b)
      go L a e b f =
          record {
            run = ⊎_elim (λ (h : a ≤ b). pick b (ending (suc n)) f (omega arith)) (λ (h : b < a). pick a (wider n (longest_run q n) L.run) e (omega arith)) (order a b);
            most = λ l r. ⊎_elim (λ (h : r.start + l ≤ n). omega (arith, L.most l (record { start = r.start; within = h; passes = r.passes })))
                (λ (h : n < r.start + l). omega (arith, ends_most (suc n) l (omega (arith, r.within)) (last l r h))) (order (r.start + l) n);
          }
        where
          order : (a b : ℕ) → (a ≤ b) ⊎ (b < a)
          order zero b = inl zero-le
          order (suc a) b = ⊎_elim (λ (h : a ≤ b). ⊎_elim (λ (e : a ≡ b). inr (omega arith)) (λ (l : a < b). inl l) (eq-or-lt_of_le h)) (λ (h : b < a). inr (omega arith)) (order a b)

          pick : {k : ℕ} (c : ℕ) → Run q (suc n) k → k ≡ c → {m : ℕ} → c ≡ m → Run q (suc n) m
          pick c r e g = record { start = r.start; within = omega (arith, r.within); passes = λ i h. r.passes i (omega arith) }

          last : (l : ℕ) (r : Run q (suc n) l) → n < r.start + l → (i : ℕ) → suc n - l ≤ i → i < suc n → q i ≡ true
          last l r h i g k =
              let s = r.start in
              let e : s + (i - s) ≡ i = omega (arith, r.within) in
              sym (ap q e) ∙ r.passes (i - s) (omega (arith, r.within))

-- tests that agree have the same runs
module _ (q r : ℕ → Bool) (h : (i : ℕ) → q i ≡ r i) where
  run_same : (n : ℕ) → run_before q n ≡ run_before r n
  unfolding run_before
  run_same zero = refl
  run_same (suc n) = ap₂ (λ (b : Bool) (k : ℕ). cond b (suc k) 0) (h n) (run_same n)

  longest_same_at : (n : ℕ) → longest_run q n ≡ longest_run r n
  unfolding longest_run
  longest_same_at zero = refl
  longest_same_at (suc n) = ap₂ max (longest_same_at n) (run_same (suc n))

pub longest_same : (q r : ℕ → Bool) (n : ℕ) → ((i : ℕ) → q i ≡ r i) → longest_run q n ≡ longest_run r n
longest_same q r n h = longest_same_at q r h n
