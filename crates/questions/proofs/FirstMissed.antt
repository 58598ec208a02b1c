-- Why a run of tests that returns at the first "no" computes `first_missed`, and what is known once it gives 0.
use Prim.Native.Nat.{ℕ, zero, suc}
use mathlib.Core.Path.{◌≡◌, refl, sym, subst, ◌∙◌}
use mathlib.Core.Bool.{Bool, true, false, cond, ◌&&◌}
use mathlib.Core.List.{List, [], ◌∷◌, ◌++◌}
use lib.Dec.{T, ltb, eqb}
use borrow.Author.Tests.{lt-ltb, ne_eqb}
use native.Mathlib.Omega.{arith}
use Rattle.questions.specs.declared.Missed.{Missed}
use Rattle.questions.specs.Questions.{Question, first_missed}
use Rattle.questions.specs.Missed.{number_of}

-- every answer is yes; the answers are read off by place
abbrev pub AllYes : List Question → Type 0
AllYes [] = Unit
AllYes (q ∷ qs) = (q.1 ≡ true) × AllYes qs

-- no question has the number 0, which says that none is missed
abbrev pub numbered : List Question → Bool
numbered [] = true
numbered (q ∷ qs) = ltb 0 q.0 && numbered qs

pub passed : (n : ℕ) {b : Bool} (qs : List Question) → b ≡ true → first_missed ((n, b) ∷ qs) ≡ first_missed qs
passed n qs h = simp h

-- the parts of "numbered" at one question
not_zero : (n : ℕ) (m : Bool) → T (ltb 0 n && m) → n ≡ 0 → ⊥
not_zero zero m t e = t
not_zero (suc n) m t e = omega arith

others : (n : ℕ) (m : Bool) → T (ltb 0 n && m) → T m
others zero m t = absurd t
others (suc n) m t = subst (λ (b : Bool). T (b && m)) (lt-ltb 0 (suc n) (omega arith)) t

-- nothing missed up to here: the rest decides
pub up_to_here : (ps qs : List Question) → AllYes ps → first_missed (ps ++ qs) ≡ first_missed qs
up_to_here [] qs h = refl
up_to_here (p ∷ ps) qs h = passed p.0 {b = p.1} (ps ++ qs) h.0 ∙ up_to_here ps qs h.1

pub none_missed : (qs : List Question) → AllYes qs → first_missed qs ≡ 0
none_missed [] h = refl
none_missed (q ∷ qs) h = passed q.0 {b = q.1} qs h.0 ∙ none_missed qs h.1

pub all_yes : (qs : List Question) → T (numbered qs) → first_missed qs ≡ 0 → AllYes qs
all_yes [] t h = tt
all_yes ((n, b) ∷ qs) t h = at n b (numbered qs) (first_missed qs) t h (all_yes qs)
  where
    at : (n : ℕ) (b m : Bool) (rest : ℕ) → T (ltb 0 n && m) → cond b rest n ≡ 0 → (T m → rest ≡ 0 → AllYes qs) → (b ≡ true) × AllYes qs
    at zero b m rest t h f = absurd t
    at (suc n) true m rest t h f = (refl, f (others (suc n) m t) h)
    at (suc n) false m rest t h f = absurd (omega arith)

-- the answers to two runs of questions, one after the other
pub yes_parts : (ps qs : List Question) → AllYes (ps ++ qs) → AllYes ps × AllYes qs
yes_parts [] qs y = (tt, y)
yes_parts (p ∷ ps) qs y = let r = yes_parts ps qs y.1 in ((y.0, r.0), r.1)

-- a guard that asks some questions and then others: the first part's number unless it is 0
pub in_two_parts : (ps qs : List Question) → T (numbered ps) → first_missed (ps ++ qs) ≡ cond (eqb (first_missed ps) 0) (first_missed qs) (first_missed ps)
in_two_parts [] qs t = refl
in_two_parts ((n, true) ∷ ps) qs t = in_two_parts ps qs (others n (numbered ps) t)
in_two_parts ((n, false) ∷ ps) qs t = simp (ne_eqb n 0 (not_zero n (numbered ps) t))

-- a guard that stops in the middle: the question that is missed first among some is missed first among more
pub stops : (m : Missed) (ps qs : List Question) → number_of m ≡ first_missed ps → number_of m ≡ first_missed (ps ++ qs)
stops m [] qs h = grind arith
stops m ((n, true) ∷ ps) qs h = stops m ps qs h
stops m ((n, false) ∷ ps) qs h = h

-- a guard that goes on: once some questions are answered yes, what is missed first among the rest is missed first among all
pub goes_on : (ps qs : List Question) {m : ℕ} → T (numbered ps) → 0 ≡ first_missed ps → m ≡ first_missed qs → m ≡ first_missed (ps ++ qs)
goes_on ps qs t z h = h ∙ sym (up_to_here ps qs (all_yes ps t (sym z)))
