-- Order and rounding: of two fractions of either sign the larger never rounds to the smaller value, in either format, overflow to an infinity included.
-- The kit has it for fractions that are not negative (`round_mono`); a sign turns the order round.
use mathlib.Core.Path.{sym, ◌∙◌, subst, subst₂}
use Prim.Native.Nat.{ℕ, ◌+◌, ◌*◌, ◌≤◌, ◌<◌}
use native.Mathlib.Nat.{add_comm}
use mathlib.Core.Bool.{Bool, true, false, ◌&&◌, ◌||◌}
use lib.Dec.{T, ltb, eqb, eqb→eq}
use lib.Ieee.{Float, nan, inf, fin, Format, up, down, round, neg, le}
use lib.Ieee.Fits.{and_i, and_l, and_r, eq→eqb}
use lib.Ieee.Order.{round_mono}
use Rattle.math.proofs.Rounded.{round_neg}

or_map : (a b c d : Bool) → (T a → T c) → (T b → T d) → T (a || b) → T (c || d)
or_map true b true d f g t = tt
or_map true b false d f g t = absurd (f tt)
or_map false b true d f g t = tt
or_map false b false d f g t = g t

swap : (a b : ℕ) → T (eqb a b) → T (eqb b a)
swap a b t = eq→eqb (sym (eqb→eq a b t))

swap_like : (a b : ℕ) → T (eqb a b && true) → T (eqb b a && true)
swap_like a b t = and_i (eqb b a) true (swap a b (and_l (eqb a b) true t)) tt

swap_zero : (a b : ℕ) → T (eqb a b && eqb a 0) → T (eqb b a && eqb b 0)
swap_zero a b t =
    let e = eqb→eq a b (and_l (eqb a b) (eqb a 0) t) in
    and_i (eqb b a) (eqb b 0) (eq→eqb (sym e)) (eq→eqb (sym e ∙ eqb→eq a 0 (and_r (eqb a b) (eqb a 0) t)))

-- a turned sign turns the order round
pub le_neg : (x y : Float) → T (le x y) → T (le (neg y) (neg x))
unfolding le neg
le_neg nan y h = absurd h
le_neg (inf s) nan h = h
le_neg (inf true) (inf true) h = tt
le_neg (inf true) (inf false) h = tt
le_neg (inf false) (inf true) h = h
le_neg (inf false) (inf false) h = tt
le_neg (inf true) (fin t n d) h = tt
le_neg (inf false) (fin t n d) h = h
le_neg (fin s m e) nan h = h
le_neg (fin s m e) (inf true) h = h
le_neg (fin s m e) (inf false) h = tt
le_neg (fin false m e) (fin false n d) h = let a = m * up e * down d in let b = n * up d * down e in or_map (ltb a b) (eqb a b && true) (ltb a b) (eqb b a && true) (λ t. t) (swap_like a b) h
le_neg (fin false m e) (fin true n d) h = swap_zero (m * up e * down d) (n * up d * down e) h
le_neg (fin true m e) (fin false n d) h =
    let a = m * up e * down d in
    let b = n * up d * down e in
    or_map (ltb 0 (a + b)) (eqb a b && eqb a 0) (ltb 0 (b + a)) (eqb b a && eqb b 0) (λ t. subst (λ (k : ℕ). T (ltb 0 k)) (add_comm a b) t) (swap_zero a b) h
le_neg (fin true m e) (fin true n d) h = let a = m * up e * down d in let b = n * up d * down e in or_map (ltb b a) (eqb a b && true) (ltb b a) (eqb b a && true) (λ t. t) (swap_like a b) h

-- a negative fraction that is smaller in size
pub round_mono_neg : (f : Format) (a b c d : ℕ) → 0 < b → 0 < d → a * d ≤ c * b → T (le (round f true c d) (round f true a b))
round_mono_neg f a b c d B D h = subst₂ (λ (x y : Float). T (le x y)) (round_neg f c d) (round_neg f a b) (le_neg (round f false a b) (round f false c d) (round_mono f a b c d B D h))
