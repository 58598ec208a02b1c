-- A part of a list that was lent and written: what stands inside it, and outside.
use mathlib.Core.Path.{◌≡◌, ap, ◌∙◌}
use mathlib.Core.List.{List, ◌++◌}
use Prim.Native.Nat.{ℕ, ◌+◌, ◌-◌, ◌≤◌, ◌<◌}
use native.Mathlib.Omega.{arith}
use lib.ListN.{length, get_or, take, drop, length-append, length-drop, get_or-append}
use lib.Seq.{length-take-le, get_or-append-add, get_or-take, get_or-drop}

-- the list with ys in the place of its n elements from s on
abbrev pub put : ℕ → ℕ → List ℕ → List ℕ → List ℕ
put s n ys out = take s out ++ (ys ++ drop n (drop s out))

module _ (s n : ℕ) (ys out : List ℕ) (long : length ys ≡ n) (room : s + n ≤ length out) where
  before : length (take s out) ≡ s
  before = length-take-le s out (omega arith)

  pub put_length : length (put s n ys out) ≡ length out
  put_length =
      length-append (take s out) (ys ++ drop n (drop s out))
      ∙ omega (arith, before, length-append ys (drop n (drop s out)), length-drop n (drop s out), length-drop s out)

  pub put_inside : (k : ℕ) → k < n → get_or (put s n ys out) (s + k) 0 ≡ get_or ys k 0
  put_inside k h =
      ap (λ (m : ℕ). get_or (put s n ys out) m 0) (omega (arith, before))
      ∙ get_or-append-add (take s out) (ys ++ drop n (drop s out)) k 0
      ∙ get_or-append ys (drop n (drop s out)) 0 k (omega arith)

  pub put_before : (p : ℕ) → p < s → get_or (put s n ys out) p 0 ≡ get_or out p 0
  put_before p h = get_or-append (take s out) (ys ++ drop n (drop s out)) 0 p (omega (arith, before)) ∙ get_or-take s out p 0 h

  pub put_after : (p : ℕ) → s + n ≤ p → get_or (put s n ys out) p 0 ≡ get_or out p 0
  put_after p h =
      let j = p - (s + n) in
      ap (λ (m : ℕ). get_or (put s n ys out) m 0) (omega (arith, before))
      ∙ get_or-append-add (take s out) (ys ++ drop n (drop s out)) (length ys + j) 0
      ∙ get_or-append-add ys (drop n (drop s out)) j 0
      ∙ get_or-drop n (drop s out) j 0
      ∙ get_or-drop s out (n + j) 0
      ∙ ap (λ (m : ℕ). get_or out m 0) (omega arith)
