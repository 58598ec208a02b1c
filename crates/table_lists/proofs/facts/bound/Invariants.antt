-- `facts::bound` meets its contract: after t turns the rectangles of the first t tables are written.
use mathlib.Core.Path.{◌≡◌, refl, sym, ap, ap₂, ◌∙◌}
use mathlib.Core.List.{List}
use Prim.Native.Nat.{ℕ, ◌+◌, ◌*◌, ◌≤◌, ◌<◌}
use native.Mathlib.Omega.{arith}
use lib.ListN.{length, get_or, take}
use lib.Seq.{sets, length-take-le}
use Rattle.lists.specs.Lists.{written}
use Rattle.lists.proofs.Written.{written_run}
use Rattle.lists.proofs.Runs.{taken_more, strung, strung_one, strung_size}
use Rattle.rects.specs.declared.Rect.{Rect}
use Rattle.rects.specs.Rects.{numbers_of}
use Rattle.rects.specs.Around.{around}
use Rattle.listings.specs.Listed.{set_of}
use Rattle.table_lists.specs.Answers.{places_of, bounds_of}
use Rattle.table_lists.proofs.facts.bound.Given as goal

-- the numbers of the rectangle around set k
abbrev pub four : List ℕ → List ℕ → (ℕ → List ℕ) → ℕ → List ℕ
four rects chosen f k = bounds_of rects chosen (f k)

module _ (rects chosen : List ℕ) (f : ℕ → List ℕ) (numbers out : List ℕ) where
  pub turn : {t : ℕ} {out' xs : List ℕ} {r : Rect} → out' ≡ written (strung (four rects chosen f) (take t numbers)) out → t < length numbers → 4 * t + 4 ≤ length out
      → r ≡ around rects (places_of chosen xs) → xs ≡ f (get_or numbers t 0) → sets out' (4 * t) (numbers_of r) ≡ written (strung (four rects chosen f) (take (t + 1) numbers)) out
  turn {t = t} {r = r} W l room er ex =
      let size : length (strung (four rects chosen f) (take t numbers)) ≡ 4 * t = strung_size (four rects chosen f) 4 (λ k. refl) (take t numbers) ∙ ap (λ (k : ℕ). 4 * k) (length-take-le t numbers (omega arith)) in
      ap₂ (λ (w : List ℕ) (i : ℕ). sets w i (numbers_of r)) W (sym size)
      ∙ ap (sets (written (strung (four rects chosen f) (take t numbers)) out) (length (strung (four rects chosen f) (take t numbers)))) (ap numbers_of er ∙ ap (bounds_of rects chosen) ex)
      ∙ written_run (four rects chosen f (get_or numbers t 0)) (strung (four rects chosen f) (take t numbers)) out (at_end size)
      ∙ ap (λ (w : List ℕ). written w out) (sym (strung_one (four rects chosen f) (take t numbers) (get_or numbers t 0)) ∙ ap (strung (four rects chosen f)) (sym (taken_more numbers t l)))
    where
      at_end : {n : ℕ} → n ≡ 4 * t → n + 4 ≤ length out
      at_end e = omega arith

abbrev pub invariant-loop-t : goal.invariant-loop-t
invariant-loop-t l = l.out ≡ written (strung (four l.rulings.rects l.rulings.chosen (set_of l.sets)) (take l.t l.numbers)) l.initial.out
