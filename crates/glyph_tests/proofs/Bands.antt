-- A band along a side is a rectangle: its lines that have ink are the places along the side with ink in the clamped band.
use Rattle.std.proofs.Common.{◌≡◌, ℕ, ◌+◌, ◌-◌, ◌<◌, ◌≤◌, min, max, Bool, true, false, ltb, sym, refl, ap, ◌∙◌, ap₂, arith}
use lib.Ieee.{Float, binary64, div}
use Rattle.lists.specs.Lists.{below, any}
use Rattle.lists.proofs.Keep.{any_true, true_any, in_below, below_in}
use Rattle.math.specs.Select.{minimum_number}
use Rattle.math.specs.Sum.{whole}
use Rattle.rects.specs.Rects.{width_of, height_of}
use Rattle.rects.specs.declared.Rect.{Rect}
use Rattle.ink.specs.declared.Lines.TheVariants.{Rows, Columns}
use Rattle.ink.specs.Ink.{Ink, row_ink, column_ink}
use Rattle.ink.proofs.Counts.{some_any}
use Rattle.ink.proofs.Runs.{longest_same}
use Rattle.glyph_tests.specs.Tests.{top_edge, bottom_edge, left_edge, right_edge, run_share, edge_coverage}
use Rattle.glyph_tests.specs.Steps.{top_band, bottom_band, left_band, right_band, line_share}

same_test : (a b : Bool) → (a ≡ true → b ≡ true) → (b ≡ true → a ≡ true) → a ≡ b
same_test true b f g = sym (f refl)
same_test false true f g = g refl
same_test false false f g = refl

-- two runs of places that hold the same ones
same_any : (p : ℕ → Bool) (f g : ℕ → ℕ) (m n : ℕ) → ((d : ℕ) → d < m → (e : ℕ) × (e < n) × (f d ≡ g e)) → ((e : ℕ) → e < n → (d : ℕ) × (d < m) × (g e ≡ f d))
    → any (λ d. p (f d)) (below m) ≡ any (λ e. p (g e)) (below n)
same_any p f g m n there back =
    same_test (any (λ d. p (f d)) (below m)) (any (λ e. p (g e)) (below n)) (one f g m n there) (one g f n m back)
  where
    one : (f g : ℕ → ℕ) (m n : ℕ) → ((d : ℕ) → d < m → (e : ℕ) × (e < n) × (f d ≡ g e)) → any (λ d. p (f d)) (below m) ≡ true → any (λ e. p (g e)) (below n) ≡ true
    one f g m n h t =
        let x = any_true (λ d. p (f d)) (below m) t in
        let y = h x.0 (below_in m x.0 x.1) in
        true_any (λ e. p (g e)) (below n) y.0 (in_below n y.0 y.1) (sym (ap p y.2) ∙ x.2)

-- the places from a on, no farther than b, and the places up to b, no farther than a
from_start : (p : ℕ → Bool) (a b tol : ℕ) → a ≤ b → any (λ d. p (a + d)) (below (min (a + tol) b - a + 1)) ≡ any (λ d. p (min (a + d) b)) (below (tol + 1))
from_start p a b tol h =
    same_any p (λ d. a + d) (λ d. min (a + d) b) (min (a + tol) b - a + 1) (tol + 1) (λ d l. (d, omega arith, omega arith)) (λ e l. (min e (b - a), omega arith, omega arith))

from_end : (p : ℕ → Bool) (a b tol : ℕ) → a ≤ b → any (λ d. p (max (b - tol) a + d)) (below (b - max (b - tol) a + 1)) ≡ any (λ d. p (max (b - d) a)) (below (tol + 1))
from_end p a b tol h =
    same_any p (λ d. max (b - tol) a + d) (λ d. max (b - d) a) (b - max (b - tol) a + 1) (tol + 1) (λ d l. (b - (max (b - tol) a + d), omega arith, omega arith))
    (λ e l. (max (b - e) a - max (b - tol) a, omega arith, omega arith))

module _ (ink : Ink) (f : Rect) (tol : ℕ) where
  top_share : f.y0 ≤ f.y1 → line_share ink (top_band f tol) Columns ≡ run_share (top_edge ink f tol) (width_of f)
  unfolding line_share column_ink
  top_share h =
      ap (λ (n : ℕ). div binary64 (whole n) (whole (width_of f)))
      (longest_same (λ k. ltb 0 (column_ink ink (top_band f tol) k)) (top_edge ink f tol) (width_of f)
      (λ i. some_any (λ j. ink (f.x0 + i) (f.y0 + j)) (below (height_of (top_band f tol))) ∙ from_start (λ y. ink (f.x0 + i) y) f.y0 f.y1 tol h))

  bottom_share : f.y0 ≤ f.y1 → line_share ink (bottom_band f tol) Columns ≡ run_share (bottom_edge ink f tol) (width_of f)
  unfolding line_share column_ink
  bottom_share h =
      ap (λ (n : ℕ). div binary64 (whole n) (whole (width_of f)))
      (longest_same (λ k. ltb 0 (column_ink ink (bottom_band f tol) k)) (bottom_edge ink f tol) (width_of f)
      (λ i. some_any (λ j. ink (f.x0 + i) (max (f.y1 - tol) f.y0 + j)) (below (height_of (bottom_band f tol))) ∙ from_end (λ y. ink (f.x0 + i) y) f.y0 f.y1 tol h))

  left_share : f.x0 ≤ f.x1 → line_share ink (left_band f tol) Rows ≡ run_share (left_edge ink f tol) (height_of f)
  unfolding line_share row_ink
  left_share h =
      ap (λ (n : ℕ). div binary64 (whole n) (whole (height_of f)))
      (longest_same (λ k. ltb 0 (row_ink ink (left_band f tol) k)) (left_edge ink f tol) (height_of f)
      (λ j. some_any (λ i. ink (f.x0 + i) (f.y0 + j)) (below (width_of (left_band f tol))) ∙ from_start (λ x. ink x (f.y0 + j)) f.x0 f.x1 tol h))

  right_share : f.x0 ≤ f.x1 → line_share ink (right_band f tol) Rows ≡ run_share (right_edge ink f tol) (height_of f)
  unfolding line_share row_ink
  right_share h =
      ap (λ (n : ℕ). div binary64 (whole n) (whole (height_of f)))
      (longest_same (λ k. ltb 0 (row_ink ink (right_band f tol) k)) (right_edge ink f tol) (height_of f)
      (λ j. some_any (λ i. ink (max (f.x1 - tol) f.x0 + i) (f.y0 + j)) (below (width_of (right_band f tol))) ∙ from_end (λ x. ink x (f.y0 + j)) f.x0 f.x1 tol h))

  -- the least of the shares of the four bands is the edge coverage
  pub edges_are : f.x0 ≤ f.x1 → f.y0 ≤ f.y1 → {t b l r m m' m'' : Float} → t ≡ line_share ink (top_band f tol) Columns → b ≡ line_share ink (bottom_band f tol) Columns
      → l ≡ line_share ink (left_band f tol) Rows → r ≡ line_share ink (right_band f tol) Rows → m ≡ minimum_number t b → m' ≡ minimum_number m l → m'' ≡ minimum_number m' r
      → m'' ≡ edge_coverage ink f tol
  unfolding edge_coverage
  edges_are x y t b l r m m' m'' =
      m'' ∙ ap₂ minimum_number (m' ∙ ap₂ minimum_number (m ∙ ap₂ minimum_number (t ∙ top_share y) (b ∙ bottom_share y)) (l ∙ left_share x)) (r ∙ right_share x)
