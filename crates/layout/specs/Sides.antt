-- Document 01, question 1, and the lengths of rasters that questions 3 and 14 ask.
use Rattle.std.specs.Prelude.{ℕ, ◌*◌, Bool, ◌&&◌, leb, eqb}
use Rattle.layout.specs.declared.sides.Sides.{Sides}

-- A side is 1 to 8,192.
abbrev pub side_fits : ℕ → Bool
side_fits n = leb 1 n && leb n 8192

-- Question 1 where a call is given the levelled sides alone: both are 1 to 8,192.
abbrev pub levelled_sides_fit : ℕ → ℕ → Bool
levelled_sides_fit w h = side_fits w && side_fits h

-- Question 1: page sides and levelled sides 1 to 8,192, and the page no larger than the levelled picture either way.
unfoldable pub sides_fit : Sides → Bool
sides_fit s = (levelled_sides_fit s.pw s.ph && levelled_sides_fit s.w s.h) && (leb s.pw s.w && leb s.ph s.h)

-- A raster of n bytes has one for each place of its picture: the grey and the ink of question 3, the levelled raster of question 14.
unfoldable pub raster_fits : ℕ → ℕ → ℕ → Bool
raster_fits w h n = eqb n (w * h)
