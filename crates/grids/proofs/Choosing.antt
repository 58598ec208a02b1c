-- Which sets are grids, one set more a turn.
use Rattle.std.specs.Prelude.{◌≡◌, ℕ, suc, ◌+◌, ◌<◌, ◌≤◌, List, [], ◌∷◌, ◌++◌, length, set}
use mathlib.Core.Path.{refl, sym, ap, ◌∙◌}
use native.Mathlib.Numerals.{add-one}
use native.Mathlib.Omega.{arith}
use lib.ListN.{length-append}
use borrow.Author.Tests.{le-leb, lt-leb}
use Rattle.lists.specs.Lists.{below, keep, written}
use Rattle.lists.proofs.Keep.{length_below}
use Rattle.lists.proofs.Sizes.{keep_size_le, keep_one, keep_past}
use Rattle.lists.proofs.Written.{written_more}
use Rattle.grids.specs.Grids.{is_grid, grid_numbers}
use Rattle.grids.specs.Steps.{Chose}

module _ (least : ℕ) (f : ℕ → List ℕ) where
  pub grids_few : (k : ℕ) → length (grid_numbers least f k) ≤ k
  unfolding grid_numbers
  grids_few k = omega (arith, keep_size_le (λ j. is_grid least (f j)) (below k), length_below k)

  pub chose_none : (nu : List ℕ) → Chose least f 0 nu nu 0
  unfolding grid_numbers
  chose_none nu = record { grids = refl; numbers = refl }

  module _ {k : ℕ} {nu nu' : List ℕ} {g : ℕ} (C : Chose least f k nu nu' g) {s : List ℕ} (e : s ≡ f k) where
    one : least ≤ length s → grid_numbers least f (k + 1) ≡ grid_numbers least f k ++ (k ∷ [])
    unfolding grid_numbers
    one h =
        ap (λ (m : ℕ). keep (λ j. is_grid least (f j)) (below m)) (add-one k)
        ∙ keep_one (λ j. is_grid least (f j)) k (ap (is_grid least) (sym e) ∙ le-leb least (length s) h)

    past : length s < least → grid_numbers least f (k + 1) ≡ grid_numbers least f k
    unfolding grid_numbers
    past h =
        ap (λ (m : ℕ). keep (λ j. is_grid least (f j)) (below m)) (add-one k)
        ∙ keep_past (λ j. is_grid least (f j)) k (ap (is_grid least) (sym e) ∙ lt-leb least (length s) h)

    -- a grid: its number goes behind those that are there
    pub chose_one : least ≤ length s → g < length nu → Chose least f (k + 1) nu (set nu' g k) (g + 1)
    chose_one h room =
        record {
          grids = add-one g ∙ ap suc C.grids ∙ sym (ap length (one h) ∙ length-append (grid_numbers least f k) (k ∷ []) ∙ add-one _);
          numbers = written_more (grid_numbers least f k) nu k C.numbers (sym C.grids) room (one h);
        }

    -- any other set is passed over
    pub chose_past : length s < least → Chose least f (k + 1) nu nu' g
    chose_past h = record { grids = C.grids ∙ sym (ap length (past h)); numbers = C.numbers ∙ ap (λ (l : List ℕ). written l nu) (sym (past h)) }
