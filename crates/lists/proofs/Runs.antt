-- Lists that a loop writes from the front: one value a turn, or one run of values a turn.
use mathlib.Core.Path.{◌≡◌, refl, sym, ap, ap₂, ◌∙◌}
use mathlib.Core.Bool.{Bool, true, false, cond}
use mathlib.Core.List.{List, [], ◌∷◌, ◌++◌, map, append-nil}
use Prim.Native.Nat.{ℕ, zero, suc, ◌+◌, ◌*◌, ◌≤◌, ◌<◌}
use native.Mathlib.Nat.{le_refl}
use native.Mathlib.Decide.{le_ind}
use native.Mathlib.Numerals.{add-one}
use native.Mathlib.Omega.{arith}
use lib.ListN.{length, get_or, set, take, length-append, length-map}
use lib.Seq.{sets, take-suc, length-take-le}
use Rattle.lists.specs.Lists.{below, keep, concat, written}
use Rattle.lists.proofs.Keep.{map_append, concat_append, length_values, values_more}
use Rattle.lists.proofs.Written.{written_more, written_run}

-- the first numbers of a list, one more
pub taken_more : (l : List ℕ) (t : ℕ) → t < length l → take (t + 1) l ≡ take t l ++ (get_or l t 0 ∷ [])
taken_more l t h = ap (λ (j : ℕ). take j l) (add-one t) ∙ take-suc l t 0 h

module _ {A : Type 0} where
  -- one value more
  pub value_written : (f : ℕ → A) (lent : List A) {l : List A} {k : ℕ} {v : A} → l ≡ written (map f (below k)) lent → k < length lent → v ≡ f k
      → set l k v ≡ written (map f (below (k + 1))) lent
  value_written f lent {l} {k} {v} e h g =
      ap (set l k) g ∙ written_more (map f (below k)) lent (f k) e (length_values f k) h (values_more f k)

  -- all values at once, from the front
  pub values_written : (f : ℕ → A) (n : ℕ) (lent : List A) → n ≤ length lent → sets lent 0 (map f (below n)) ≡ written (map f (below n)) lent
  values_written f n lent h = written_run (map f (below n)) [] lent (omega (arith, h, length_values f n))

  -- one value more of f behind those of the first numbers
  pub mapped_more : (f : ℕ → A) (l : List ℕ) (t : ℕ) (lent now : List A) (v : A) → now ≡ written (map f (take t l)) lent → t < length l
      → t < length lent → v ≡ f (get_or l t 0) → set now t v ≡ written (map f (take (t + 1) l)) lent
  mapped_more f l t lent now v e h room ev =
      written_more (map f (take t l)) lent v e (length-map (take t l) f ∙ length-take-le t l (omega arith)) room
      (ap (map f) (taken_more l t h) ∙ map_append f (take t l) (get_or l t 0 ∷ []) ∙ ap (λ (w : _). map f (take t l) ++ (w ∷ [])) (sym ev))

  module _ (f : ℕ → List A) where
    -- the runs of some numbers, strung together
    abbrev pub strung : List ℕ → List A
    strung xs = concat (map f xs)

    pub strung_one : (xs : List ℕ) (k : ℕ) → strung (xs ++ (k ∷ [])) ≡ strung xs ++ f k
    strung_one xs k =
        ap concat (map_append f xs (k ∷ [])) ∙ concat_append (map f xs) (f k ∷ []) ∙ ap (λ (t : List A). strung xs ++ t) (append-nil (f k))

    -- how long the first k runs are
    abbrev pub total : ℕ → ℕ
    total k = length (strung (below k))

    run_next : (k : ℕ) → strung (below (k + 1)) ≡ strung (below k) ++ f k
    run_next k = ap (λ (m : ℕ). strung (below m)) (add-one k) ∙ strung_one (below k) k

    pub total_next : (k : ℕ) → total (k + 1) ≡ total k + length (f k)
    total_next k = ap length (run_next k) ∙ length-append (strung (below k)) (f k)

    pub total_suc : (k : ℕ) → total (suc k) ≡ total k + length (f k)
    total_suc k = ap total (sym (add-one k)) ∙ total_next k

    total_grows : (k n : ℕ) → k ≤ n → total k ≤ total n
    total_grows k n h = le_ind (λ (m : ℕ). total k ≤ total m) (le_refl (total k)) (λ m w ih. omega (arith, total_suc m)) n h

    -- there is room for the next
    pub total_room : (k n : ℕ) → k < n → total k + length (f k) ≤ total n
    total_room k n h = let g = total_grows (k + 1) n (omega arith) in omega (arith, total_next k)

    -- one run more
    pub run_written : (lent : List A) {l t : List A} {k at : ℕ} → l ≡ written (strung (below k)) lent → at ≡ total k → t ≡ f k
        → at + length (f k) ≤ length lent → sets l at t ≡ written (strung (below (k + 1))) lent
    run_written lent {l} {t} {k} {at} e a g h =
        ap (sets l at) g ∙ ap₂ (λ (w : List A) (i : ℕ). sets w i (f k)) e a ∙ written_run (f k) (strung (below k)) lent (rw a at h)
        ∙ ap (λ (w : List A). written w lent) (sym (run_next k))

    pub strung_keep : (q : ℕ → Bool) (xs : List ℕ) → length (strung (keep q xs)) ≤ length (strung xs)
    strung_keep q [] = le_refl 0
    strung_keep q (x ∷ xs) = go (strung_keep q xs) (q x)
      where
        go : length (strung (keep q xs)) ≤ length (strung xs) → (b : Bool) → length (strung (cond b (x ∷ keep q xs) (keep q xs))) ≤ length (f x ++ strung xs)
        go h true = omega (arith, length-append (f x) (strung xs), length-append (f x) (strung (keep q xs)))
        go h false = omega (arith, length-append (f x) (strung xs))

    -- the runs of the numbers that pass a test take no more room than all, so there is room for the next
    pub strung_fits : (q : ℕ → Bool) (k count : ℕ) → k < count → length (strung (keep q (below k))) + length (f k) ≤ total count
    strung_fits q k count h = omega (arith, strung_keep q (below k), total_room k count h)

    pub strung_size : (n : ℕ) → ((k : ℕ) → length (f k) ≡ n) → (xs : List ℕ) → length (strung xs) ≡ n * length xs
    strung_size n e [] = omega arith
    strung_size n e (x ∷ xs) = length-append (f x) (strung xs) ∙ omega (arith, e x, strung_size n e xs)

-- runs of the same lengths take the same room
pub total_same : {A B : Type 0} (f : ℕ → List A) (g : ℕ → List B) → ((k : ℕ) → length (f k) ≡ length (g k)) → (k : ℕ) → total f k ≡ total g k
total_same f g same zero = refl
total_same f g same (suc k) = omega (arith, total_suc f k, total_suc g k, same k, total_same f g same k)
