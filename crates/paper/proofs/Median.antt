-- Why a median can be read off counts: an entry of an ascending list is at least v exactly when enough entries are.
use mathlib.Core.Path.{◌≡◌, refl, sym, ap, ◌∙◌}
use mathlib.Core.Bool.{Bool, true, false, cond}
use mathlib.Core.List.{List, [], ◌∷◌}
use Prim.Native.Nat.{ℕ, zero, suc, ◌+◌, ◌-◌, ◌/◌, ◌<◌, ◌≤◌}
use native.Mathlib.Nat.{le_trans, le_of_lt, not-suc-le-zero, le_of_suc-le-suc}
use native.Mathlib.Omega.{arith}
use lib.Dec.{leb, ltb}
use lib.ListN.{length, get_or}
use borrow.Author.Tests.{leb-true, leb-false, ltb-true, ltb-false, le-leb}
use Rattle.lists.specs.Lists.{one}
use Rattle.lists.proofs.Sizes.{keep_size, keep_size_le}
use Rattle.paper.specs.Steps.{many}
use Rattle.paper.specs.Median.{insert, sorted, median}
use Rattle.paper.proofs.Many.{at_least_zero}

-- x is at most each entry
abbrev pub AtMostEach : ℕ → List ℕ → Type 0
AtMostEach x [] = Unit
AtMostEach x (y ∷ ys) = (x ≤ y) × AtMostEach x ys

-- each entry is at most each later one
abbrev pub Ascends : List ℕ → Type 0
Ascends [] = Unit
Ascends (x ∷ xs) = AtMostEach x xs × Ascends xs

at_most_each_trans : (x y : ℕ) → x ≤ y → (zs : List ℕ) → AtMostEach y zs → AtMostEach x zs
at_most_each_trans x y l [] h = tt
at_most_each_trans x y l (z ∷ zs) h = (le_trans l h.0, at_most_each_trans x y l zs h.1)

insert_at_most : (x v : ℕ) → x ≤ v → (ys : List ℕ) → AtMostEach x ys → AtMostEach x (insert v ys)
unfolding insert
insert_at_most x v l [] h = (l, tt)
insert_at_most x v l (y ∷ ys) h = go (insert_at_most x v l ys h.1) (ltb v y)
  where
    go : AtMostEach x (insert v ys) → (b : Bool) → AtMostEach x (cond b (v ∷ y ∷ ys) (y ∷ insert v ys))
    go ih true = (l, h)
    go ih false = (h.0, ih)

insert_ascends : (v : ℕ) (ys : List ℕ) → Ascends ys → Ascends (insert v ys)
unfolding insert
insert_ascends v [] h = (tt, tt)
insert_ascends v (y ∷ ys) h = go (insert_ascends v ys h.1) (ltb v y) refl
  where
    go : Ascends (insert v ys) → (b : Bool) → ltb v y ≡ b → Ascends (cond b (v ∷ y ∷ ys) (y ∷ insert v ys))
    go ih true e = ((le_of_lt (ltb-true v y e), at_most_each_trans v y (le_of_lt (ltb-true v y e)) ys h.0), h)
    go ih false e = (insert_at_most y v (ltb-false v y e) ys h.0, ih)

-- a sorted list ascends
pub sorted_ascends : (xs : List ℕ) → Ascends (sorted xs)
unfolding sorted
sorted_ascends [] = tt
sorted_ascends (x ∷ xs) = insert_ascends x (sorted xs) (sorted_ascends xs)

insert_many : (q : ℕ → Bool) (v : ℕ) (ys : List ℕ) → many q (insert v ys) ≡ one (q v) + many q ys
unfolding insert
insert_many q v [] = keep_size q v []
insert_many q v (y ∷ ys) = go (insert_many q v ys) (ltb v y)
  where
    go : many q (insert v ys) ≡ one (q v) + many q ys → (b : Bool) → many q (cond b (v ∷ y ∷ ys) (y ∷ insert v ys)) ≡ one (q v) + many q (y ∷ ys)
    go ih true = keep_size q v (y ∷ ys)
    go ih false = omega (arith, keep_size q y (insert v ys), keep_size q y ys, ih)

-- whatever the test, as many entries pass it once they are sorted
pub sorted_same : (q : ℕ → Bool) (xs : List ℕ) → many q (sorted xs) ≡ many q xs
unfolding sorted
sorted_same q [] = refl
sorted_same q (x ∷ xs) = omega (arith, insert_many q x (sorted xs), keep_size q x xs, sorted_same q xs)

sorted_length : (xs : List ℕ) → length (sorted xs) ≡ length xs
sorted_length xs = sym (at_least_zero (sorted xs)) ∙ sorted_same (leb 0) xs ∙ at_least_zero xs

-- entries that are all at least x pass the test of every v up to x
all_at_least : (v x : ℕ) → v ≤ x → (ys : List ℕ) → AtMostEach x ys → many (leb v) ys ≡ length ys
all_at_least v x l [] h = refl
all_at_least v x l (y ∷ ys) h = omega (arith, keep_size (leb v) y ys, ap one (le-leb v y (le_trans l h.0)), all_at_least v x l ys h.1)

-- entry k is at least v if all but k entries are
entry_at_least : (v d : ℕ) (s : List ℕ) (k : ℕ) → Ascends s → k < length s → length s ≤ many (leb v) s + k → v ≤ get_or s k d
entry_at_least v d [] k a l h = absurd (not-suc-le-zero l)
entry_at_least v d (x ∷ xs) zero a l h = go (leb v x) refl
  where
    go : (b : Bool) → leb v x ≡ b → v ≤ x
    go true e = leb-true v x e
    go false e = absurd (omega (arith, keep_size (leb v) x xs, ap one e, keep_size_le (leb v) xs, h))
entry_at_least v d (x ∷ xs) (suc k) a l h = entry_at_least v d xs k a.1 (le_of_suc-le-suc l) (go (leb v x) refl)
  where
    go : (b : Bool) → leb v x ≡ b → length xs ≤ many (leb v) xs + k
    go true e = omega (arith, all_at_least v x (leb-true v x e) xs a.0)
    go false e = omega (arith, keep_size (leb v) x xs, ap one e, h)

-- and below v if not
entry_below : (v d : ℕ) (s : List ℕ) (k : ℕ) → Ascends s → k < length s → many (leb v) s + k < length s → get_or s k d < v
entry_below v d [] k a l h = absurd (not-suc-le-zero l)
entry_below v d (x ∷ xs) zero a l h = go (leb v x) refl
  where
    go : (b : Bool) → leb v x ≡ b → x < v
    go true e = absurd (omega (arith, keep_size (leb v) x xs, ap one e, all_at_least v x (leb-true v x e) xs a.0, h))
    go false e = leb-false v x e
entry_below v d (x ∷ xs) (suc k) a l h = entry_below v d xs k a.1 (le_of_suc-le-suc l) (omega (arith, keep_size (leb v) x xs, h))

-- the median is v if half the entries, rounded up, are at least v, and fewer are larger
pub median_is : (v : ℕ) (xs : List ℕ) → length xs - length xs / 2 ≤ many (leb v) xs → many (leb (v + 1)) xs < length xs - length xs / 2 → median xs ≡ v
median_is v xs enough fewer =
    let k = length xs / 2 in
    let s = sorted xs in
    let n = sorted_length xs in
    let inside : k < length s = omega arith in
    let low = entry_at_least v 255 s k (sorted_ascends xs) inside (omega (arith, sorted_same (leb v) xs)) in
    let high = entry_below (v + 1) 255 s k (sorted_ascends xs) inside (omega (arith, sorted_same (leb (v + 1)) xs)) in
    omega arith

pub median_none : (xs : List ℕ) → length xs ≡ 0 → median xs ≡ 255
unfolding sorted
median_none [] e = refl
median_none (x ∷ xs) e = absurd (omega arith)
