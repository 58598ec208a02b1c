-- Rectangles that are listed of some things, four numbers each.
use mathlib.Core.Path.{◌≡◌, refl, sym, ap, subst, ◌∙◌}
use mathlib.Core.List.{List, [], ◌∷◌, map}
use Prim.Native.Nat.{ℕ, zero, suc, ◌+◌, ◌*◌, ◌<◌}
use native.Mathlib.Omega.{arith}
use lib.ListN.{length, get_or}
use Rattle.lists.specs.Lists.{concat}
use Rattle.rects.specs.declared.Rect.{Rect}
use Rattle.rects.specs.Rects.{rect_at, numbers_of}
use Rattle.rects.specs.Steps.{Inside, AllInside}
use Rattle.rects.proofs.Questions.{has_numbers}

module _ {A : Type 0} (f : A → Rect) where
  -- The rectangles of some things, strung together.
  abbrev pub strung_rects : List A → List ℕ
  strung_rects xs = concat (map (λ x. numbers_of (f x)) xs)

  -- They have four numbers each.
  pub strung_long : (xs : List A) → length (strung_rects xs) ≡ 4 * length xs
  strung_long [] = refl
  strung_long (x ∷ xs) = omega (arith, strung_long xs)

  -- Rectangle k is that of thing k.
  pub strung_at : (xs : List A) (k : ℕ) (past : A) → k < length xs → rect_at (strung_rects xs) k ≡ f (get_or xs k past)
  strung_at [] k past h = absurd (omega arith)
  strung_at (x ∷ xs) zero past h = refl
  strung_at (x ∷ xs) (suc k) past h = behind ∙ strung_at xs k past (omega arith)
    where
      shift : (i j : ℕ) → i ≡ suc (suc (suc (suc j))) → get_or (strung_rects (x ∷ xs)) i 0 ≡ get_or (strung_rects xs) j 0
      shift i j e = ap (λ (n : ℕ). get_or (strung_rects (x ∷ xs)) n 0) e

      behind : rect_at (strung_rects (x ∷ xs)) (suc k) ≡ rect_at (strung_rects xs) k
      behind = λ i. record {
        x0 = shift (4 * suc k) (4 * k) (omega arith) i;
        y0 = shift (4 * suc k + 1) (4 * k + 1) (omega arith) i;
        x1 = shift (4 * suc k + 2) (4 * k + 2) (omega arith) i;
        y1 = shift (4 * suc k + 3) (4 * k + 3) (omega arith) i;
      }

  -- If each thing's rectangle lies in a picture, all that are listed do.
  pub strung_inside : {w h : ℕ} (xs : List A) (past : A) → ((k : ℕ) → k < length xs → Inside w h (f (get_or xs k past))) → AllInside w h (strung_rects xs)
  strung_inside {w} {h} xs past inside k m =
      let here : k < length xs = omega (arith, strung_long xs, has_numbers (length (strung_rects xs)) k m) in
      subst (Inside w h) (sym (strung_at xs k past here)) (inside k here)
