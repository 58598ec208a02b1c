-- What the functions of `paper` ask and leave; none of it is needed to read the contracts.
use Rattle.std.specs.Prelude.{◌≡◌, ℕ, ◌*◌, ◌≤◌, ◌+◌, ◌^◌, ◌<◌, Bool, List, map, ◌++◌, length, get_or, eqb, leb}
use Rattle.rects.specs.Steps.{Inside}
use Rattle.rects.specs.declared.Rect.{Rect}
use Rattle.paper.specs.Pixels.{Raster, samples, run, beside, pixels_in}
use Rattle.lists.specs.Lists.{below, keep}
use Rattle.paper.specs.declared.areas.Strips.{Strips}
use Rattle.paper.specs.declared.areas.Area.{Area}
use Rattle.paper.specs.declared.areas.Areas.{Areas}

-- A ruling's rectangle on a raster.
pub record OnPicture (raster : Raster) (r : Rect) : Type 0 where
  pub full : length raster.pixels ≡ raster.w * raster.h
  pub narrow : raster.w ≤ 8192
  pub low : raster.h ≤ 8192
  pub inside : Inside raster.w raster.h r

-- How many entries pass a test.
abbrev pub many : (ℕ → Bool) → List ℕ → ℕ
many q xs = length (keep q xs)

-- There are 256 counts, and each can grow by n.
pub record RoomFor (n : ℕ) (counts : List ℕ) : Type 0 where
  pub all : 256 ≤ length counts
  pub each : (v : ℕ) → v < 256 → get_or counts v 0 + n < 2 ^ 32

-- Each count grew by how often its number stands in xs, and xs has bytes alone.
pub record Counted (xs counts counts' : List ℕ) : Type 0 where
  pub grown : (v : ℕ) → v < 256 → get_or counts' v 0 ≡ get_or counts v 0 + many (eqb v) xs
  pub bytes : many (leb 256) xs ≡ 0

-- Each count is how often its number stands in xs, which has bytes alone.
pub record Tallied (xs counts : List ℕ) : Type 0 where
  pub tally : (v : ℕ) → v < 256 → get_or counts v 0 ≡ many (eqb v) xs
  pub bytes : many (leb 256) xs ≡ 0

-- There are 256 counts, all 0.
pub record Clear (counts : List ℕ) : Type 0 where
  pub all : 256 ≤ length counts
  pub each : (v : ℕ) → v < 256 → get_or counts v 0 ≡ 0

-- What sampling leaves: the number n of the samples xs, and their counts.
pub record Sample (xs counts : List ℕ) (n : ℕ) : Type 0 where
  pub number : n ≡ length xs
  pub few : n ≤ 131072
  pub tallied : Tallied xs counts

-- The counts are those of some n bytes.
abbrev pub TallyOf : ℕ → List ℕ → Type 0
TallyOf n counts = (xs : List ℕ) × (length xs ≡ n) × Tallied xs counts

-- n pixels from start on, step apart.
abbrev pub line : List ℕ → ℕ → ℕ → ℕ → List ℕ
line raster start n step = map (λ k. get_or raster (start + k * step) 0) (below n)

-- The places before and after a span that are sampled are two runs of places of the picture, of eight at most.
pub record Beside (size a b : ℕ) (s : Strips) : Type 0 where
  pub places : beside size a b ≡ run s.first s.firsts ++ run s.second s.seconds
  pub first_inside : s.first + s.firsts ≤ size
  pub second_inside : s.second + s.seconds ≤ size
  pub few : s.firsts + s.seconds ≤ 8

-- The pixels of an area, row by row.
abbrev pub pixels_of : List ℕ → ℕ → Area → List ℕ
pixels_of raster w a = pixels_in raster w (run a.x a.columns) (run a.y a.rows)

-- An area lies on a picture of w columns and h rows, and has at most 65,536 pixels.
pub record AreaInside (w h : ℕ) (a : Area) : Type 0 where
  pub right : a.x + a.columns ≤ w
  pub bottom : a.y + a.rows ≤ h
  pub small : a.rows * a.columns ≤ 65536

-- The samples are the pixels of two areas of the picture, in some order.
pub record Sampled (w h : ℕ) (r : Rect) (horizontal : Bool) (s : Areas) : Type 0 where
  pub first_inside : AreaInside w h s.first
  pub second_inside : AreaInside w h s.second
  pub same : (raster : List ℕ) (q : ℕ → Bool) → many q (samples raster w h r horizontal) ≡ many q (pixels_of raster w s.first) + many q (pixels_of raster w s.second)
  pub number : (raster : List ℕ) → length (samples raster w h r horizontal) ≡ s.first.rows * s.first.columns + s.second.rows * s.second.columns
