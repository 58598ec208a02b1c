-- How many entries pass a test, and tests over the numbers below n.
use mathlib.Core.Path.{◌≡◌, refl, ap, ◌∙◌}
use mathlib.Core.Bool.{Bool, true, false, cond}
use mathlib.Core.List.{List, [], ◌∷◌, ◌++◌, append-nil}
use Prim.Native.Nat.{ℕ, zero, suc, ◌+◌, ◌≤◌, ◌<◌, zero-le}
use native.Mathlib.Nat.{le_refl, le_step, lt-suc_self}
use native.Mathlib.Decide.{le_ind}
use native.Mathlib.Omega.{arith}
use lib.ListN.{length}
use Rattle.lists.specs.Lists.{one, below, keep}
use Rattle.lists.proofs.Keep.{keep_append}

module _ {A : Type 0} where
  pub keep_size : (q : A → Bool) (x : A) (xs : List A) → length (keep q (x ∷ xs)) ≡ one (q x) + length (keep q xs)
  keep_size q x xs = go (q x)
    where
      go : (b : Bool) → length (cond b (x ∷ keep q xs) (keep q xs)) ≡ one b + length (keep q xs)
      go true = omega arith
      go false = omega arith

  pub keep_size_le : (q : A → Bool) (s : List A) → length (keep q s) ≤ length s
  keep_size_le q [] = le_refl 0
  keep_size_le q (x ∷ xs) = go (keep_size_le q xs) (q x)
    where
      go : length (keep q xs) ≤ length xs → (b : Bool) → length (cond b (x ∷ keep q xs) (keep q xs)) ≤ suc (length xs)
      go l true = omega arith
      go l false = omega arith

  -- a test that is one of two others, never both
  pub keep_size_split : (q a b : A → Bool) → ((x : A) → one (q x) ≡ one (a x) + one (b x)) → (s : List A)
      → length (keep q s) ≡ length (keep a s) + length (keep b s)
  keep_size_split q a b h [] = refl
  keep_size_split q a b h (x ∷ xs) = omega (arith, keep_size q x xs, keep_size a x xs, keep_size b x xs, h x, keep_size_split q a b h xs)

module _ (q : ℕ → Bool) where
  pub keep_one : (i : ℕ) → q i ≡ true → keep q (below (suc i)) ≡ keep q (below i) ++ (i ∷ [])
  keep_one i e = keep_append q (below i) (i ∷ []) ∙ ap (λ (b : Bool). keep q (below i) ++ cond b (i ∷ []) []) e

  pub keep_past : (i : ℕ) → q i ≡ false → keep q (below (suc i)) ≡ keep q (below i)
  keep_past i e =
      keep_append q (below i) (i ∷ []) ∙ ap (λ (b : Bool). keep q (below i) ++ cond b (i ∷ []) []) e ∙ append-nil (keep q (below i))

  -- numbers from i to k that fail are passed over
  pub keep_gap : (i k : ℕ) → i ≤ k → ((m : ℕ) → i ≤ m → m < k → q m ≡ false) → keep q (below k) ≡ keep q (below i)
  keep_gap i k l =
      le_ind (λ (k : ℕ). ((m : ℕ) → i ≤ m → m < k → q m ≡ false) → keep q (below k) ≡ keep q (below i)) (λ h. refl)
      (λ m w ih h. keep_past m (h m w (lt-suc_self m)) ∙ ih (λ j a b. h j a (le_step b))) k l

  pub keep_none : (n : ℕ) → ((m : ℕ) → m < n → q m ≡ false) → keep q (below n) ≡ []
  keep_none n h = keep_gap 0 n zero-le (λ m a b. h m b)

  pub keep_all : (n : ℕ) → ((m : ℕ) → m < n → q m ≡ true) → keep q (below n) ≡ below n
  keep_all zero h = refl
  keep_all (suc n) h = keep_one n (h n (lt-suc_self n)) ∙ ap (λ (s : List ℕ). s ++ (n ∷ [])) (keep_all n (λ m l. h m (le_step l)))
