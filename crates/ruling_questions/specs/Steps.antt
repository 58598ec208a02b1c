-- Question 14 by the lengths of the lists, as the guard answers it; none of it is needed to read the contract of `segments`.
use Rattle.std.specs.Prelude.{Bool, ◌&&◌, ℕ, ◌*◌, leb, eqb}

-- Of the lists that are written.
abbrev pub answers_fit : ℕ → ℕ → ℕ → ℕ → ℕ → ℕ → ℕ → ℕ → ℕ → Bool
answers_fit w h n raster rects directions contrasts members ends =
    eqb raster (w * h) && leb (4 * n) rects && leb n directions && leb n contrasts && leb n members && leb n ends

-- Of the work lists.
abbrev pub work_fits : ℕ → ℕ → ℕ → ℕ → ℕ → ℕ → Bool
work_fits n parents listed listed_ends work keys = leb n parents && leb n listed && leb n listed_ends && leb n work && leb n keys
