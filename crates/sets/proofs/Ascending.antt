-- Laws of ascending lists: two with the same members are equal, and an entry stands at one place.
use mathlib.Core.Path.{◌≡◌, refl, ap₂}
use mathlib.Core.Bool.{Bool, true, false, cond}
use mathlib.Core.Logic.{⊎_elim}
use mathlib.Core.List.Memᴰ
use mathlib.Core.List.{List, [], ◌∷◌, ◌++◌}
use Prim.Native.Nat.{ℕ, zero, suc, ◌≤◌, ◌<◌, zero-le, suc-le-suc}
use native.Mathlib.Nat.{not-suc-le-zero, le_of_suc-le-suc, le_antisymm, le_step}
use native.Mathlib.Decide.{dec_lt, ℕ_discrete}
use native.Mathlib.Omega.{arith}
use lib.ListN.{length, get_or}
use Rattle.lists.specs.Lists.{below, keep, In}
use Rattle.lists.proofs.Keep.{below_in, kept_in, at_in}
use Rattle.sets.specs.Closed.{Ascending, nothing, before}

ascending_snoc : {s : List ℕ} (x : ℕ) → Ascending s → ((y : ℕ) → In s y → y < x) → Ascending (s ++ (x ∷ []))
ascending_snoc x nothing h = before {x = x} {xs = []} (λ y m. absurd (Memᴰ.not-nil m)) nothing
ascending_snoc x (before {x = z} {xs} l a) h =
    before
    (λ y m. ⊎_elim (λ (w : In xs y). l y w) (λ (w : In (x ∷ []) y). let e = Memᴰ.eq_of_singleton w in let g = h z (Memᴰ.head refl) in omega arith)
    (Memᴰ.append_cases xs m))
    (ascending_snoc x a (λ y m. h y (Memᴰ.tail m)))

pub ascending_below : (n : ℕ) → Ascending (below n)
ascending_below zero = nothing
ascending_below (suc n) = ascending_snoc n (ascending_below n) (below_in n)

pub ascending_keep : (q : ℕ → Bool) {s : List ℕ} → Ascending s → Ascending (keep q s)
ascending_keep q nothing = nothing
ascending_keep q (before {x} {xs} l a) = go (ascending_keep q a) (q x)
  where
    go : Ascending (keep q xs) → (b : Bool) → Ascending (cond b (x ∷ keep q xs) (keep q xs))
    go k true = before (λ y m. l y (kept_in q xs y m).0) k
    go k false = k

-- the smallest entry is the first
first_le : {x : ℕ} {xs : List ℕ} → Ascending (x ∷ xs) → (y : ℕ) → In (x ∷ xs) y → x ≤ y
first_le {x} {xs} (before l a) y m = ⊎_elim (λ (e : y ≡ x). omega arith) (λ (w : In xs y). let g = l y w in omega arith) (Memᴰ.cases_cons m)

pub ascending_same : {s t : List ℕ} → Ascending s → Ascending t → ((i : ℕ) → In s i → In t i) → ((i : ℕ) → In t i → In s i) → s ≡ t
ascending_same nothing nothing to from = refl
ascending_same nothing (before {x} l a) to from = elim (from x (Memᴰ.head refl)) [ ]
ascending_same (before {x} l a) nothing to from = elim (to x (Memᴰ.head refl)) [ ]
ascending_same (before {x} {xs} l a) (before {x = y} {xs = ys} m b) to from =
    let e : x ≡ y = le_antisymm (first_le (before l a) y (from y (Memᴰ.head refl))) (first_le (before m b) x (to x (Memᴰ.head refl))) in
    ap₂ ◌∷◌ e
    (ascending_same a b
    (λ i w. ⊎_elim (λ (f : i ≡ y). absurd (let g = l i w in omega arith)) (λ v. v) (Memᴰ.cases_cons (to i (Memᴰ.tail w))))
    (λ i w. ⊎_elim (λ (f : i ≡ x). absurd (let g = m i w in omega arith)) (λ v. v) (Memᴰ.cases_cons (from i (Memᴰ.tail w)))))

pub ascending_at : {s : List ℕ} → Ascending s → (k l : ℕ) → k < l → l < length s → get_or s k 0 < get_or s l 0
ascending_at nothing k l h m = absurd (not-suc-le-zero m)
ascending_at (before r a) k zero h m = absurd (not-suc-le-zero h)
ascending_at (before {x} {xs} r a) zero (suc l) h m = r (get_or xs l 0) (at_in xs l (le_of_suc-le-suc m))
ascending_at (before r a) (suc k) (suc l) h m = ascending_at a k l (le_of_suc-le-suc h) (le_of_suc-le-suc m)

pub one_place : {s : List ℕ} → Ascending s → (k l : ℕ) → k < length s → l < length s → get_or s k 0 ≡ get_or s l 0 → k ≡ l
one_place {s} a k l hk hl e = go (dec_lt k l) (dec_lt l k)
  where
    go : Dec (k < l) → Dec (l < k) → k ≡ l
    go (yes h) o = absurd (let g = ascending_at a k l h hl in omega arith)
    go (no h) (yes o) = absurd (let g = ascending_at a l k o hk in omega arith)
    go (no h) (no o) = omega arith

pub first_least : {s : List ℕ} → Ascending s → (i : ℕ) → In s i → In s (get_or s 0 0) × (get_or s 0 0 ≤ i)
first_least nothing i m = elim m [ ]
first_least (before {x} {xs} l a) i m = (Memᴰ.head refl, first_le (before l a) i m)

-- a list of members of another is no longer, and is the other if it is no shorter
pub sublist : {s t : List ℕ} → Ascending s → Ascending t → ((i : ℕ) → In s i → In t i) → (length s ≤ length t) × (length t ≤ length s → s ≡ t)
sublist nothing nothing h = (zero-le, λ l. refl)
sublist nothing (before l b) h = (zero-le, λ m. absurd (not-suc-le-zero m))
sublist (before {x} l a) nothing h = absurd (Memᴰ.not-nil (h x (Memᴰ.head refl)))
sublist (before {x} {xs} l a) (before {x = y} {xs = ys} m b) h =
    elim (ℕ_discrete x y) [
      | yes e ↦
          let r = sublist a b (λ i w. ⊎_elim (λ (f : i ≡ y). absurd (let g = l i w in omega arith)) (λ v. v) (Memᴰ.cases_cons (h i (Memᴰ.tail w)))) in
          (suc-le-suc r.0, λ w. ap₂ ◌∷◌ e (r.1 (le_of_suc-le-suc w)))
      | no e ↦
          let y<x : y < x = ⊎_elim (λ (f : x ≡ y). absurd (e f)) (m x) (Memᴰ.cases_cons (h x (Memᴰ.head refl))) in
          let r =
          sublist (before l a) b
          (λ i w. ⊎_elim (λ (f : i ≡ y). absurd (let g = first_le (before l a) i w in omega arith)) (λ v. v) (Memᴰ.cases_cons (h i w))) in
          (le_step r.0, λ w. absurd (let g = r.0 in omega arith))
    ]
