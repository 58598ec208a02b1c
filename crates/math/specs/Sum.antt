-- `pairwise_sum`.
use Rattle.std.specs.Prelude.{ℕ, zero, suc, ◌+◌, ◌/◌, Bool, true, false, List, [], ◌∷◌, map, leb, pos, length, get_or, take, drop, Float}
use Rattle.std.specs.Float.{nan, binary64}
use Rattle.std.specs.Float.Ieee.{add, of_int}
use Rattle.math.specs.Constants as Constants

-- The values added to s, left to right.
unfoldable pub added_to : Float → List Float → Float
added_to s [] = s
added_to s (x ∷ xs) = added_to (add binary64 s x) xs

-- At most 8 values: these are added from 0.0 on.
abbrev pub short : List Float → Bool
short xs = leb (length xs) 8

-- The sum of the values with at most d cuts on the way to any of them; b says whether the list is short.
unfoldable pub halved : ℕ → Bool → List Float → Float
unfolding added_to
halved zero b xs = added_to Constants.zero xs
halved (suc d) true xs = added_to Constants.zero xs
halved (suc d) false xs =
    let front = take (length xs / 2) xs in
    let back = drop (length xs / 2) xs in
    add binary64 (halved d (short front) front) (halved d (short back) back)

-- Up to 8 values added from 0.0 left to right; a longer list is cut at half its length, rounded down, and each half summed the same way.
-- There are always cuts enough: the laws `sum_of_short` and `sum_of_long` (proofs/Sums.antt) are this sentence.
abbrev pub pairwise_sum : List Float → Float
pairwise_sum xs = halved (length xs) (short xs) xs

-- The values at some places of a list.
abbrev pub values_at : List Float → List ℕ → List Float
values_at values places = map (λ i. get_or values i nan) places

-- A whole number as a float.
abbrev pub whole : ℕ → Float
whole n = of_int binary64 (pos n)

-- The sum of whole numbers. While it is at most 2^53 it is the pairwise sum of them as floats: the law `sum_whole`.
unfoldable pub total : List ℕ → ℕ
total [] = 0
total (n ∷ ns) = n + total ns
