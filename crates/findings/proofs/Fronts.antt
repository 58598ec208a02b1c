-- A list gone through from the front: its greatest value, one entry more a turn.
use mathlib.Core.Path.{◌≡◌, ap, ◌∙◌}
use mathlib.Core.List.{List, [], ◌∷◌, ◌++◌, map}
use Prim.Native.Nat.{ℕ, ◌+◌, ◌<◌, max}
use native.Mathlib.Numerals.{add-one}
use native.Mathlib.Omega.{arith}
use lib.ListN.{length, get_or, take}
use lib.Seq.{take-suc}
use Rattle.lists.proofs.Keep.{map_append}
use Rattle.findings.specs.Made.{greatest_of}

-- the first i + 1 entries are the first i and the next one
pub next_taken : (xs : List ℕ) (i : ℕ) → i < length xs → take (i + 1) xs ≡ take i xs ++ (get_or xs i 0 ∷ [])
next_taken xs i h = ap (λ (n : ℕ). take n xs) (add-one i) ∙ take-suc xs i 0 h

greatest_append : (xs ys : List ℕ) → greatest_of (xs ++ ys) ≡ max (greatest_of xs) (greatest_of ys)
unfolding greatest_of
greatest_append [] ys = omega arith
greatest_append (x ∷ xs) ys = ap (max x) (greatest_append xs ys) ∙ omega arith

pub greatest_more : (f : ℕ → ℕ) (xs : List ℕ) (i : ℕ) → i < length xs → greatest_of (map f (take (i + 1) xs)) ≡ max (greatest_of (map f (take i xs))) (f (get_or xs i 0))
unfolding greatest_of
greatest_more f xs i h =
    ap (λ (t : List ℕ). greatest_of (map f t)) (next_taken xs i h) ∙ ap greatest_of (map_append f (take i xs) (get_or xs i 0 ∷ []))
    ∙ greatest_append (map f (take i xs)) (f (get_or xs i 0) ∷ []) ∙ omega arith
