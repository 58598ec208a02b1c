-- A list that is written from the front, place by place, until it is another list.
use mathlib.Core.Path.{◌≡◌, refl, ◌∙◌}
use mathlib.Core.Logic.{⊎_elim}
use mathlib.Core.List.{List}
use Prim.Native.Nat.{ℕ, ◌+◌, ◌≤◌, ◌<◌}
use native.Mathlib.Omega.{arith}
use native.Mathlib.Nat.{eq-or-lt_of_le}
use lib.ListN.{length, get_or, set, length-set}
use lib.Seq.{ext_get_or, get_or-set_same, get_or-set_other}

-- xs is as long as ys, and the same as ys at every place below i
pub record Agree (i : ℕ) (xs ys : List ℕ) : Type 0 where
  pub long : length xs ≡ length ys
  pub below : (k : ℕ) → k < i → get_or xs k 0 ≡ get_or ys k 0

pub agree_none : (xs ys : List ℕ) → length xs ≡ length ys → Agree 0 xs ys
agree_none xs ys h = record { long = h; below = λ k l. absurd (omega arith) }

pub agree_more : {i : ℕ} {xs ys : List ℕ} (v : ℕ) → Agree i xs ys → i < length xs → v ≡ get_or ys i 0 → Agree (i + 1) (set xs i v) ys
agree_more {i} {xs} {ys} v a h e = record { long = length-set xs i v ∙ a.long; below = at }
  where
    at : (k : ℕ) → k < i + 1 → get_or (set xs i v) k 0 ≡ get_or ys k 0
    at k l = ⊎_elim (λ same. rw same (get_or-set_same xs i v 0 h ∙ e)) (λ less. get_or-set_other xs i k v 0 (λ (q : k ≡ i). absurd (omega arith)) ∙ a.below k less) (eq-or-lt_of_le {n = k} {m = i} (omega arith))

pub agree_all : {i : ℕ} {xs ys : List ℕ} → Agree i xs ys → length xs ≤ i → xs ≡ ys
agree_all {i} {xs} {ys} a h = ext_get_or 0 xs ys a.long (λ k l. a.below k (omega arith))

-- a list of one entry is that entry
pub agree_one : (xs ys : List ℕ) → length xs ≡ length ys → length xs ≡ 1 → set xs 0 (get_or ys 0 0) ≡ ys
agree_one xs ys h one =
    let first = agree_more (get_or ys 0 0) (agree_none xs ys h) (omega arith) refl in
    let long = length-set xs 0 (get_or ys 0 0) in
    agree_all first (omega arith)
