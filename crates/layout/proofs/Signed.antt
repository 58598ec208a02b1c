-- Signed numbers as the code reads and compares them, over the width.
use mathlib.Core.Path.{ap₂, ◌≡◌, ap, ◌∙◌}
use Prim.Native.Nat.{ℕ, ◌^◌, ◌<◌}
use native.Mathlib.Omega.{arith}
use lib.IntN.{ℤ, pos, negsuc}
use lib.Signed.{mag}
use mir.Syntax.{w64}
use mir.Val.{SFits, of_z, to_z}
use mir.ValLaws.{to_z-of_z}
use Rattle.std.specs.Int.{int_min, int_max}
use Rattle.std.proofs.lemmas.Bool.Decides.{nat_tests}
use Rattle.layout.specs.ToPage.{lesser, greater, nearest}

-- an i64 that is passed on is read back from its bits
abbrev pub passed : ℤ → ℤ
passed z = to_z w64 (of_z w64 z)

pub passed_is : (z : ℤ) → mag z < 2 ^ 63 → passed z ≡ z
passed_is z h = to_z-of_z w64 z (record { sfits = h })

-- ---- choices by order

pub lesser_is : (a b : ℤ) → int_min a b ≡ lesser a b
lesser_is (pos a) (pos b) = grind (arith, nat_tests)
lesser_is (pos a) (negsuc b) = grind (arith, nat_tests)
lesser_is (negsuc a) (pos b) = grind (arith, nat_tests)
lesser_is (negsuc a) (negsuc b) = grind (arith, nat_tests)

pub greater_is : (a b : ℤ) → int_max a b ≡ greater a b
greater_is (pos a) (pos b) = grind (arith, nat_tests)
greater_is (pos a) (negsuc b) = grind (arith, nat_tests)
greater_is (negsuc a) (pos b) = grind (arith, nat_tests)
greater_is (negsuc a) (negsuc b) = grind (arith, nat_tests)

-- a choice of two choices, by a choice that is the same
pub choice_of_four : (h g : ℤ → ℤ → ℤ) → ((a b : ℤ) → h a b ≡ g a b) → (a b c d l m n : ℤ) → SFits w64 a → SFits w64 b → SFits w64 c → SFits w64 d → mag l < 2 ^ 63 → mag m < 2 ^ 63 → mag n < 2 ^ 63 → l ≡ h (passed a) (passed b) → m ≡ h (passed c) (passed d) → n ≡ h (passed l) (passed m) → passed n ≡ g (g a b) (g c d)
choice_of_four h g same a b c d l m n fa fb fc fd fl fm fn el em en =
    passed_is n fn
    ∙ en
    ∙ ap₂ h (passed_is l fl ∙ el) (passed_is m fm ∙ em)
    ∙ ap₂ h (ap₂ h (to_z-of_z w64 a fa) (to_z-of_z w64 b fb)) (ap₂ h (to_z-of_z w64 c fc) (to_z-of_z w64 d fd))
    ∙ same (h a b) (h c d)
    ∙ ap₂ g (same a b) (same c d)

-- ---- the nearest of the numbers 0 to side − 1

-- the nearest to a choice of four, all passed on
pub nearest_of_four : (g : ℤ → ℤ → ℤ → ℤ → ℤ) (side : ℕ) (a b c d l : ℤ) (r : ℕ) → mag a < 2 ^ 63 → mag b < 2 ^ 63 → mag c < 2 ^ 63 → mag d < 2 ^ 63 → mag l < 2 ^ 63 → l ≡ g (passed a) (passed b) (passed c) (passed d) → r ≡ nearest side (passed l) → r ≡ nearest side (g a b c d)
nearest_of_four g side a b c d l r fa fb fc fd fl el er =
    let same : g (passed a) (passed b) (passed c) (passed d) ≡ g a b c d = rw (passed_is a fa, passed_is b fb, passed_is c fc, passed_is d fd) in
    er ∙ ap (nearest side) (passed_is l fl ∙ el ∙ same)
