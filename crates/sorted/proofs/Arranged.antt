-- What a sort by keys leaves: all indexes in the order of their keys. Past a place with a large key every key is as large.
use mathlib.Core.Path.{◌≡◌, ap, ◌∙◌}
use mathlib.Core.Logic.{◌⊎◌, inl, inr}
use mathlib.Core.List.{List, ◌++◌}
use Prim.Native.Nat.{ℕ, ◌^◌, ◌≤◌, ◌<◌}
use native.Mathlib.Nat.{eq-or-lt_of_le}
use native.Mathlib.Omega.{arith}
use lib.ListN.{length, get_or, take, drop, get_or-append}
use lib.Seq.{drop_at, get_or-take, length-take-le}
use Rattle.lists.specs.Lists.{written}
use Rattle.order.specs.Order as Order
use Rattle.order.proofs.Computed.{sorted_by_lem, sorted_length}
use Rattle.sorted.specs.Steps.{key_at, InOrder}

module _ (n : ℕ) (keys order order' : List ℕ) (room : n ≤ length keys)
    (e : order' ≡ Order.sorted_indexes (take n keys) ++ drop (length (take n keys)) order) where
  front : List ℕ
  front = take n keys

  long : length front ≡ n
  unfolding front
  long = length-take-le n keys room

  many : length (Order.sorted_indexes front) ≡ n
  many = sorted_length (Order.key_at front) (length front) ∙ long

  content : order' ≡ Order.sorted_indexes front ++ drop n order
  unfolding front
  content = e ∙ ap (λ (k : ℕ). Order.sorted_indexes (take n keys) ++ drop k order) long

  entry : (k : ℕ) → k < n → get_or order' k 0 ≡ get_or (Order.sorted_indexes front) k 0
  entry k h = ap (λ (l : List ℕ). get_or l k 0) content ∙ get_or-append (Order.sorted_indexes front) (drop n order) 0 k (omega (arith, many))

  key : (i : ℕ) → i < n → get_or front i 0 ≡ get_or keys i 0
  unfolding front
  key i h = get_or-take n keys i 0 h

  sorted : Order.Sorted (Order.key_at front) (length front) (Order.sorted_indexes front)
  sorted = sorted_by_lem (Order.key_at front) (length front)

  index : (k : ℕ) → k < n → get_or (Order.sorted_indexes front) k 0 < n
  index k h = omega (arith, sorted.within k (omega (arith, long)), long)

  rest_kept : drop n order' ≡ drop n order
  rest_kept = ap (drop n) content ∙ drop_at (Order.sorted_indexes front) (drop n order) n many

  known : (k : ℕ) → k < n → get_or order' k 0 < n
  known k h = rw (entry k h) (index k h)

  stands : (i : ℕ) → i < n → (k : ℕ) × (k < n) × (get_or order' k 0 ≡ i)
  stands i h =
      let s = sorted.once i (omega (arith, long)) in
      let l : s.0 < n = omega (arith, s.1, long) in
      (s.0, l, entry s.0 l ∙ s.2)

  ascends : (k l : ℕ) → k < l → l < n → key_at keys order' k ≤ key_at keys order' l
  ascends k l o h =
      rw (entry k (omega arith), entry l h, ← key (get_or (Order.sorted_indexes front) k 0) (index k (omega arith)), ← key (get_or (Order.sorted_indexes front) l 0) (index l h))
      (weak (sorted.ascends k l o (omega (arith, long))))
    where
      weak : {a b : ℕ} → Order.Before (Order.key_at front) a b → get_or front a 0 ≤ get_or front b 0
      weak (inl s) = omega arith
      weak (inr s) = omega arith

  pub arranged : n < 2 ^ 32 → n ≤ length order → length order' ≡ length order → InOrder n keys order' × (drop n order' ≡ drop n order)
  arranged small wide same =
      (record { small = small; order_room = omega arith; keys_room = room; known = known; stands = stands; ascends = ascends }, rest_kept)

-- a key at or behind a place is at least the key there
pub at_or_behind : {n : ℕ} {keys order : List ℕ} → InOrder n keys order → (k l : ℕ) → k ≤ l → l < n → key_at keys order k ≤ key_at keys order l
at_or_behind {n} {keys} {order} O k l h m = go (eq-or-lt_of_le h)
  where
    go : (k ≡ l) ⊎ (k < l) → key_at keys order k ≤ key_at keys order l
    go (inl e) = rw e (omega arith)
    go (inr s) = O.ascends k l s m

-- a list is written over its first places, whatever stood there
pub written_over : (n : ℕ) (xs ls os : List ℕ) → length xs ≡ n → drop n os ≡ drop n ls → written xs os ≡ written xs ls
written_over n xs ls os e d = rw e (ap (λ (t : List ℕ). xs ++ t) d)
