-- How many entries pass a test, and the 256 counts: a count is a sum over the parts of a list, in whatever order they come.
use mathlib.Core.Path.{◌≡◌, refl, ap, ◌∙◌}
use mathlib.Core.Bool.{Bool, true, false}
use mathlib.Core.List.{List, [], ◌∷◌, ◌++◌}
use Prim.Native.Nat.{ℕ, ◌+◌, ◌<◌, zero-le}
use native.Mathlib.Nat.{eq-or-lt_of_le, add-zero}
use mathlib.Core.Logic.{inl, inr}
use native.Mathlib.Decide.{ℕ_discrete}
use native.Mathlib.Omega.{arith}
use lib.Dec.{eqb, leb}
use lib.ListN.{length, get_or, set, length-append}
use lib.Seq.{get_or-set_same, get_or-set_other}
use borrow.Author.Tests.{leb-true, leb-false, eqb-true, eqb-false, le-leb, lt-leb, eq-eqb, ne_eqb}
use Rattle.lists.specs.Lists.{one, keep}
use Rattle.lists.proofs.Keep.{keep_append}
use Rattle.lists.proofs.Sizes.{keep_size, keep_size_split}
use Rattle.paper.specs.Steps.{many, Counted, Tallied}

pub many_append : (q : ℕ → Bool) (xs ys : List ℕ) → many q (xs ++ ys) ≡ many q xs + many q ys
many_append q xs ys = ap length (keep_append q xs ys) ∙ length-append (keep q xs) (keep q ys)

pub many_one : (q : ℕ → Bool) (x : ℕ) → many q (x ∷ []) ≡ one (q x)
many_one q x = keep_size q x [] ∙ add-zero (one (q x))

equal_or_larger : (v x : ℕ) → one (leb v x) ≡ one (eqb v x) + one (leb (v + 1) x)
equal_or_larger v x = go (leb v x) (eqb v x) refl refl
  where
    go : (l e : Bool) → leb v x ≡ l → eqb v x ≡ e → one l ≡ one e + one (leb (v + 1) x)
    go true true l e = let q = eqb-true v x e in rw (lt-leb (v + 1) x (omega arith))
    go true false l e = elim (eq-or-lt_of_le (leb-true v x l)) [ inl q ↦ absurd (eqb-false v x e q) | inr q ↦ rw (le-leb (v + 1) x (omega arith)) ]
    go false true l e = let q = eqb-true v x e in let p = leb-false v x l in absurd (omega arith)
    go false false l e = let p = leb-false v x l in rw (lt-leb (v + 1) x (omega arith))

-- what is at least v is v or larger
pub at_least : (v : ℕ) (xs : List ℕ) → many (leb v) xs ≡ many (eqb v) xs + many (leb (v + 1)) xs
at_least v xs = keep_size_split (leb v) (eqb v) (leb (v + 1)) (equal_or_larger v) xs

pub at_least_zero : (xs : List ℕ) → many (leb 0) xs ≡ length xs
at_least_zero [] = refl
at_least_zero (x ∷ xs) = keep_size (leb 0) x xs ∙ rw (le-leb 0 x zero-le, at_least_zero xs) (omega arith)

-- ---- the counts

-- one more byte
pub counted_more : (xs counts counts' : List ℕ) (p : ℕ) → p < 256 → p < length counts' → Counted xs counts counts' → Counted (xs ++ (p ∷ [])) counts (set counts' p (get_or counts' p 0 + 1))
counted_more xs counts counts' p small inside c = record { grown = λ v l. go v l (ℕ_discrete v p); bytes = omega (arith, many_append (leb 256) xs (p ∷ []), many_one (leb 256) p, ap one (lt-leb 256 p small), c.bytes) }
  where
    go : (v : ℕ) → v < 256 → Dec (v ≡ p) → get_or (set counts' p (get_or counts' p 0 + 1)) v 0 ≡ get_or counts v 0 + many (eqb v) (xs ++ (p ∷ []))
    go v l (yes e) =
        let stored : get_or (set counts' p (get_or counts' p 0 + 1)) v 0 ≡ get_or counts' v 0 + 1 = rw e (get_or-set_same counts' p (get_or counts' p 0 + 1) 0 inside) in
        omega (arith, stored, c.grown v l, many_append (eqb v) xs (p ∷ []), many_one (eqb v) p, ap one (eq-eqb v p e))
    go v l (no n) = omega (arith, get_or-set_other counts' p v (get_or counts' p 0 + 1) 0 n, c.grown v l, many_append (eqb v) xs (p ∷ []), many_one (eqb v) p, ap one (ne_eqb v p n))

-- one list after another
pub counted_then : (xs ys a b c : List ℕ) → Counted xs a b → Counted ys b c → Counted (xs ++ ys) a c
counted_then xs ys a b c p q = record { grown = λ v l. omega (arith, p.grown v l, q.grown v l, many_append (eqb v) xs ys); bytes = omega (arith, p.bytes, q.bytes, many_append (leb 256) xs ys) }

-- two lists counted into counts that were 0, which have the numbers of a third
pub tallied : (xs ys zs a b c : List ℕ) → ((v : ℕ) → v < 256 → get_or a v 0 ≡ 0) → ((q : ℕ → Bool) → many q zs ≡ many q xs + many q ys) → Counted xs a b → Counted ys b c → Tallied zs c
tallied xs ys zs a b c clear same p q = record { tally = λ v l. omega (arith, clear v l, p.grown v l, q.grown v l, same (eqb v)); bytes = omega (arith, p.bytes, q.bytes, same (leb 256)) }
