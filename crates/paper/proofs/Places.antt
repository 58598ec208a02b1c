-- The places beside a span: two runs, cut where the picture ends.
use mathlib.Core.Path.{◌≡◌, sym, ap, ◌∙◌}
use mathlib.Core.Bool.{Bool, true, false}
use mathlib.Core.List.{List, [], ◌∷◌, ◌++◌, append_assoc, append-nil}
use Prim.Native.Nat.{ℕ, suc, ◌+◌, ◌-◌, ◌<◌, ◌≤◌, min}
use native.Mathlib.Nat.{le_step, lt-suc_self}
use native.Mathlib.Decide.{le_ind}
use native.Mathlib.Omega.{arith}
use borrow.Author.Tests.{le-leb, lt-leb}
use Rattle.lists.specs.Lists.{below, keep}
use Rattle.lists.proofs.Keep.{map_append}
use Rattle.lists.proofs.Sizes.{keep_one, keep_gap, keep_none}
use Rattle.paper.specs.Pixels.{run, away, beside}

run_more : (a n : ℕ) → run a (suc n) ≡ run a n ++ ((a + n) ∷ [])
run_more a n = map_append (λ k. a + k) (below n) (n ∷ [])

-- numbers from i to k that pass are a run
keep_run : (q : ℕ → Bool) (i k : ℕ) → i ≤ k → ((m : ℕ) → i ≤ m → m < k → q m ≡ true) → keep q (below k) ≡ keep q (below i) ++ run i (k - i)
keep_run q i k l =
    le_ind (λ (k : ℕ). ((m : ℕ) → i ≤ m → m < k → q m ≡ true) → keep q (below k) ≡ keep q (below i) ++ run i (k - i)) (λ h. first) (λ m w ih h. next m w (ih (λ j a b. h j a (le_step b))) (h m w (lt-suc_self m))) k l
  where
    first : keep q (below i) ≡ keep q (below i) ++ run i (i - i)
    first = let e : i - i ≡ 0 = omega arith in rw e (sym (append-nil (keep q (below i))))

    next : (m : ℕ) → i ≤ m → keep q (below m) ≡ keep q (below i) ++ run i (m - i) → q m ≡ true → keep q (below (suc m)) ≡ keep q (below i) ++ run i (suc m - i)
    next m w ih t =
        let e : suc m - i ≡ suc (m - i) = omega arith in
        let f : i + (m - i) ≡ m = omega arith in
        keep_one q m t ∙ ap (λ (s : List ℕ). s ++ (m ∷ [])) ih ∙ append_assoc (keep q (below i)) (run i (m - i)) (m ∷ [])
        ∙ ap (λ (s : List ℕ). keep q (below i) ++ s) (ap (λ (j : ℕ). run i (m - i) ++ (j ∷ [])) (sym f) ∙ sym (run_more i (m - i)) ∙ ap (run i) (sym e))

module _ (a b : ℕ) (order : a ≤ b) where
  before : (k : ℕ) → a - 6 ≤ k → k < a - 2 → away a b k ≡ true
  before k l g = simp (le-leb (k + 3) a (omega arith), le-leb a (k + 6) (omega arith))

  behind : (k : ℕ) → b + 3 ≤ k → k < b + 7 → away a b k ≡ true
  behind k l g = simp (lt-leb (k + 3) a (omega arith), le-leb (b + 3) k l, le-leb k (b + 6) (omega arith))

  too_low : (k : ℕ) → k < a - 6 → away a b k ≡ false
  too_low k l = simp (le-leb (k + 3) a (omega arith), lt-leb a (k + 6) (omega arith), lt-leb (b + 3) k (omega arith))

  between : (k : ℕ) → a - 2 ≤ k → k < b + 3 → away a b k ≡ false
  between k l g = simp (lt-leb (k + 3) a (omega arith), lt-leb (b + 3) k (omega arith))

  too_high : (k : ℕ) → b + 7 ≤ k → away a b k ≡ false
  too_high k l = simp (lt-leb (k + 3) a (omega arith), le-leb (b + 3) k (omega arith), lt-leb k (b + 6) (omega arith))

  -- the places beside a span are those before it and those behind it
  pub beside_runs : (size : ℕ) → b < size → beside size a b ≡ run (a - 6) (a - 2 - (a - 6)) ++ run (min (b + 3) size) (min (b + 7) size - min (b + 3) size)
  beside_runs size inside =
      let q = away a b in
      let e = min (b + 3) size in
      let f = min (b + 7) size in
      keep_gap q f size (omega arith) (λ m l g. too_high m (omega arith))
      ∙ keep_run q e f (omega arith) (λ m l g. behind m (omega arith) (omega arith))
      ∙ ap (λ (s : List ℕ). s ++ run e (f - e))
      (keep_gap q (a - 2) e (omega arith) (λ m l g. between m l (omega arith))
      ∙ keep_run q (a - 6) (a - 2) (omega arith) before
      ∙ ap (λ (s : List ℕ). s ++ run (a - 6) (a - 2 - (a - 6))) (keep_none q (a - 6) too_low))
