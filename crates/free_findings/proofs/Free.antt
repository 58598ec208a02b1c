-- The free rules: what is counted of them.
use mathlib.Core.Path.{◌≡◌, refl}
use mathlib.Core.Bool.{Bool, true, false, not, cond}
use mathlib.Core.List.{List, [], ◌∷◌}
use Prim.Native.Nat.{ℕ, suc, ◌+◌}
use native.Mathlib.Omega.{arith}
use lib.Ieee.{Float}
use lib.ListN.{length}
use Rattle.lists.specs.Lists.{keep}
use Rattle.rects.specs.declared.Rect.{Rect}
use Rattle.rects.specs.Around.{around}
use Rattle.layout.specs.declared.rect.PageRect.{PageRect}
use Rattle.evidence.specs.declared.finding.Finding.{Finding}
use Rattle.evidence.specs.Kinds.{free_finding}
use Rattle.findings.specs.Made.{Scan, RulingLists, on_page, mean_at, greatest_of, horizontals, verticals, longest, free_of}

-- those that pass a test and those that fail it are all
pub both_counted : (q : ℕ → Bool) (xs : List ℕ) → length (keep q xs) + length (keep (λ k. not (q k)) xs) ≡ length xs
both_counted q [] = refl
both_counted q (x ∷ xs) = go (q x) (both_counted q xs)
  where
    go : (b : Bool) → length (keep q xs) + length (keep (λ k. not (q k)) xs) ≡ length xs
        → length (cond b (x ∷ keep q xs) (keep q xs)) + length (cond (not b) (x ∷ keep (λ k. not (q k)) xs) (keep (λ k. not (q k)) xs)) ≡ suc (length xs)
    go true e = omega arith
    go false e = omega arith

-- the finding from what was counted
pub from_facts : (s : Scan) (r : RulingLists) (places : List ℕ) {found : Finding} {bbox : PageRect} {q : Rect} {horizontal vertical long : ℕ} {mean : Float}
    → found ≡ free_finding s.settings s.caps bbox (length places) horizontal vertical long mean → bbox ≡ on_page s q → q ≡ around r.rects places → horizontal ≡ horizontals r places
    → vertical ≡ verticals r places → long ≡ longest r places → mean ≡ mean_at r.contrasts places → found ≡ free_of s r places
unfolding free_of greatest_of
from_facts s r places found-is bbox-is q-is h-is v-is l-is mean-is = rw (found-is, bbox-is, q-is, h-is, v-is, l-is, mean-is)
