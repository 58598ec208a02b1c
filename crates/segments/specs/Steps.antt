-- What the core of `segments` asks and leaves; none of it is needed to read the call's contract.
use Rattle.std.specs.Prelude.{◌≡◌, List, ℕ, ◌≤◌, length}
use Rattle.sets.specs.Listing.{ReadAs}
use Rattle.rects.specs.Rects.{count}
use Rattle.paper.specs.Pixels.{Raster}
use Rattle.ruling_questions.specs.Lent.{Lent}
use Rattle.ruling_lists.specs.Steps.{Picture, RoomForRulings, Described, Strung}

-- Every list has room for n pieces: what question 14 shows.
pub record Roomy (n : ℕ) (l : Lent) : Type 0 where
  pub rulings : RoomForRulings n l.rects l.directions l.contrasts
  pub members : n ≤ length l.piece_members
  pub ends : n ≤ length l.piece_ends
  pub parents : n ≤ length l.parents
  pub listed : n ≤ length l.listed
  pub listed_ends : n ≤ length l.listed_ends
  pub work : n ≤ length l.work
  pub keys : n ≤ length l.keys

-- What the questions give: a picture with at most 4,096 pieces, and room in every list.
pub record Ready (raster : Raster) (pieces : List ℕ) (l : Lent) : Type 0 where
  pub picture : Picture raster pieces
  pub few : count pieces ≤ 4096
  pub roomy : Roomy (count pieces) l

-- The work lists are as long as they were.
pub record WorkLong (l l' : Lent) : Type 0 where
  pub parents : length l'.parents ≡ length l.parents
  pub listed : length l'.listed ≡ length l.listed
  pub listed_ends : length l'.listed_ends ≡ length l.listed_ends
  pub work : length l'.work ≡ length l.work
  pub keys : length l'.keys ≡ length l.keys

-- The rulings of some sets were written, and the sets with them; there are no more rulings than pieces, and the lists give
-- each set back.
pub record Made (raster : Raster) (pieces : List ℕ) (ss : List (List ℕ)) (l l' : Lent) (r : ℕ) : Type 0 where
  pub few : r ≤ count pieces
  pub count : r ≡ length ss
  pub described : Described raster pieces ss l.rects l.directions l.contrasts l'.rects l'.directions l'.contrasts
  pub strung : Strung ss l.piece_members l.piece_ends l'.piece_members l'.piece_ends
  pub read : ReadAs ss l'.piece_members l'.piece_ends r
