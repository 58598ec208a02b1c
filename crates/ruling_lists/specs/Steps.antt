-- What the functions of `ruling_lists` ask and leave; none of it is needed to read the contract of `segments`.
use Rattle.std.specs.Prelude.{◌≡◌, List, [], map, ℕ, ◌*◌, ◌^◌, ◌≤◌, ◌<◌, Float, length, get_or}
use Rattle.lists.specs.Lists.{below, written, In, concat}
use Rattle.sets.specs.Listing.{ends_from}
use Rattle.order.specs.Order.{sorted_indexes}
use Rattle.rects.specs.Rects.{count}
use Rattle.rects.specs.Steps.{AllInside}
use Rattle.paper.specs.Pixels.{Raster}
use Rattle.ruling_lists.specs.declared.ruling.Ruling.{Ruling}
use Rattle.ruling_lists.specs.Rulings.{ruling_keys, ruling_of, Near, ruling_rects, directions_of, contrasts_of}

-- Each of the sets below n has a member, and its members are pieces.
pub record Parts (pieces : List ℕ) (set : ℕ → List ℕ) (n : ℕ) : Type 0 where
  pub some : (k : ℕ) → k < n → 0 < length (set k)
  pub known : (k i : ℕ) → k < n → In (set k) i → i < count pieces

-- The sets below n.
abbrev pub parts_of : (ℕ → List ℕ) → ℕ → List (List ℕ)
parts_of set n = map set (below n)

-- The sets that the first n entries of a list number.
abbrev pub in_order : (ℕ → List ℕ) → ℕ → List ℕ → List (List ℕ)
in_order set n order = map (λ k. set (get_or order k 0)) (below n)

-- Some sets were strung together from the front of two lists.
pub record Strung (ss : List (List ℕ)) (ms es ms' es' : List ℕ) : Type 0 where
  pub members : ms' ≡ written (concat ss) ms
  pub ends : es' ≡ written (ends_from 0 ss) es

-- The lists that sets are strung into have room for them, and the ends fit 32 bits.
pub record RoomForSets (ss : List (List ℕ)) (ms es : List ℕ) : Type 0 where
  pub members : length (concat ss) ≤ length ms
  pub ends : length ss ≤ length es
  pub small : length (concat ss) < 2 ^ 32

-- The contrast of a set's ruling is near its exact value.
abbrev pub NearOwn : Raster → List ℕ → List ℕ → Type 0
NearOwn raster pieces s = Near raster.pixels raster.w raster.h pieces s (ruling_of raster.pixels raster.w raster.h pieces s).contrast

-- What making a ruling promises of it.
pub record RulingMade (raster : Raster) (pieces s : List ℕ) (r : Ruling) : Type 0 where
  pub value : r ≡ ruling_of raster.pixels raster.w raster.h pieces s
  pub near : NearOwn raster pieces s

-- The rulings of some sets were written from the front of three lists.
pub record Described (raster : Raster) (pieces : List ℕ) (ss : List (List ℕ)) (rs ds : List ℕ) (cs : List Float)
    (rs' ds' : List ℕ) (cs' : List Float) : Type 0 where
  pub rects : rs' ≡ written (ruling_rects pieces ss) rs
  pub directions : ds' ≡ written (directions_of pieces ss) ds
  pub contrasts : cs' ≡ written (contrasts_of raster.pixels raster.w raster.h pieces ss) cs
  pub near : (k : ℕ) → k < length ss → NearOwn raster pieces (get_or ss k [])

-- Three lists have room for n rulings.
pub record RoomForRulings (n : ℕ) (rs ds : List ℕ) (cs : List Float) : Type 0 where
  pub rects : 4 * n ≤ length rs
  pub directions : n ≤ length ds
  pub contrasts : n ≤ length cs

-- A raster with its pieces.
pub record Picture (raster : Raster) (pieces : List ℕ) : Type 0 where
  pub full : length raster.pixels ≡ raster.w * raster.h
  pub narrow : raster.w ≤ 8192
  pub low : raster.h ≤ 8192
  pub inside : AllInside raster.w raster.h pieces

-- The sets were strung together from the front of two lists; they have no more members than there are pieces, and are no more.
pub record SetsListed (ss : List (List ℕ)) (n : ℕ) (ls le ls' le' : List ℕ) (r : ℕ) : Type 0 where
  pub count : r ≡ length ss
  pub strung : Strung ss ls le ls' le'
  pub within : length (concat ss) ≤ n
  pub few : length ss ≤ n

-- The numbers of the sets below n were written in the order of their rectangles.
pub record SetsOrdered (pieces : List ℕ) (set : ℕ → List ℕ) (n : ℕ) (o o' : List ℕ) : Type 0 where
  pub content : o' ≡ written (sorted_indexes (ruling_keys pieces (parts_of set n))) o
