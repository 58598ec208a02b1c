-- `pairwise_sum` by the sentence of document 01, whatever number of cuts it is given; and sums of whole numbers, which are exact.
-- A list is longer than either half, so as many cuts as it has values are enough.
use mathlib.Core.Path.{◌≡◌, refl, sym, ap, ap₂, ◌∙◌}
use Prim.Native.Nat.{ℕ, zero, suc, ◌+◌, ◌-◌, ◌*◌, ◌/◌, ◌^◌, ◌≤◌, ◌<◌, min}
use native.Mathlib.Nat.{le_refl, le_trans, le_of_eq, le-suc, le-add_right, mul-one, zero-mul, suc-mul, zero-add, add-zero, add_assoc}
use native.Mathlib.Omega.{arith}
use native.Mathlib.Numerals.{add-one}
use mathlib.Core.Bool.{Bool, true, false}
use mathlib.Core.List.{List, [], ◌∷◌, map}
use lib.Dec.{T, le→leb}
use lib.IntN.{pos}
use lib.ListN.{length, get_or, take, drop, length-take, length-drop, drop_of_length-le}
use lib.Seq.{drop-cons}
use lib.Pow.{pow_pos}
use lib.Ieee.{Float, nan, binary64, round, sum, add, of_int, in_float}
use lib.Ieee.Back.{round_whole}
use lib.Ieee.Exact.{HasValue}
use borrow.Author.Tests.{leb-false, le-leb, lt-leb}
use Rattle.math.specs.Constants as Constants
use Rattle.math.specs.Sum.{added_to, short, halved, pairwise_sum}
unfoldable pub use Rattle.math.specs.Sum.{whole, total}
use Rattle.math.proofs.Value.{add_value}

-- ---- the two sentences

abbrev front : List Float → List Float
front xs = take (length xs / 2) xs

abbrev back : List Float → List Float
back xs = drop (length xs / 2) xs

halved_short : (d : ℕ) (xs : List Float) → halved d true xs ≡ added_to Constants.zero xs
unfolding halved
halved_short zero xs = refl
halved_short (suc d) xs = refl

front_le : (d n l : ℕ) → l ≡ min (n / 2) n → n ≤ suc d → 8 < n → l ≤ d
front_le d n l e h g = omega arith

back_le : (d n l : ℕ) → l ≡ n - n / 2 → n ≤ suc d → 8 < n → l ≤ d
back_le d n l e h g = omega arith

none_left : (n : ℕ) → n ≤ 0 → 8 < n → ⊥
none_left n h g = omega arith

enough : (d e : ℕ) (b : Bool) (xs : List Float) → short xs ≡ b → length xs ≤ d → length xs ≤ e → halved d b xs ≡ halved e b xs
unfolding halved
enough zero e true xs p D E = sym (halved_short e xs)
enough zero e false xs p D E = absurd (none_left (length xs) D (leb-false (length xs) 8 p))
enough (suc d) e true xs p D E = sym (halved_short e xs)
enough (suc d) zero false xs p D E = absurd (none_left (length xs) E (leb-false (length xs) 8 p))
enough (suc d) (suc e) false xs p D E =
    let n = length xs in
    let g = leb-false n 8 p in
    let F = length-take (n / 2) xs in
    let B = length-drop (n / 2) xs in
    ap₂ (add binary64) (enough d e (short (front xs)) (front xs) refl (front_le d n (length (front xs)) F D g) (front_le e n (length (front xs)) F E g))
    (enough d e (short (back xs)) (back xs) refl (back_le d n (length (back xs)) B D g) (back_le e n (length (back xs)) B E g))

-- up to 8 values are added from 0.0 left to right
pub sum_of_short : (xs : List Float) → length xs ≤ 8 → pairwise_sum xs ≡ added_to Constants.zero xs
sum_of_short xs h = ap (λ (b : Bool). halved (length xs) b xs) (le-leb (length xs) 8 h) ∙ halved_short (length xs) xs

-- a longer list is cut at half its length, rounded down, and each half summed the same way
pub sum_of_long : (xs : List Float) → 8 < length xs → pairwise_sum xs ≡ add binary64 (pairwise_sum (take (length xs / 2) xs)) (pairwise_sum (drop (length xs / 2) xs))
unfolding halved
sum_of_long xs h =
    let n = length xs in
    let F = front_le n n (length (front xs)) (length-take (n / 2) xs) (le-suc n) h in
    let B = back_le n n (length (back xs)) (length-drop (n / 2) xs) (le-suc n) h in
    enough n (suc n) (short xs) xs refl (le_refl n) (le-suc n)
    ∙ ap (λ (b : Bool). halved (suc n) b xs) (lt-leb n 8 h)
    ∙ ap₂ (add binary64) (enough n (length (front xs)) (short (front xs)) (front xs) refl F (le_refl (length (front xs)))) (enough n (length (back xs)) (short (back xs)) (back xs) refl B (le_refl (length (back xs))))

-- ---- one value at a time

pub added_step : (s : Float) (xs : List Float) (i : ℕ) → i < length xs → added_to (add binary64 s (get_or xs i nan)) (drop (i + 1) xs) ≡ added_to s (drop i xs)
unfolding added_to
added_step s xs i h = ap (λ (k : ℕ). added_to (add binary64 s (get_or xs i nan)) (drop k xs)) (add-one i) ∙ ap (added_to s) (sym (drop-cons xs i nan h))

pub added_all : (s : Float) (xs : List Float) (i : ℕ) → length xs ≤ i → added_to s (drop i xs) ≡ s
unfolding added_to
added_all s xs i h = ap (added_to s) (drop_of_length-le xs h)

-- ---- whole numbers

-- the cast of a whole number asks that it is at most 2^53
pub as_float : (n : ℕ) → n ≤ 2 ^ 53 → T (in_float binary64 (pos n))
unfolding in_float
as_float n h = le→leb n (2 ^ 53) h

pub whole_value : (n : ℕ) → n ≤ 2 ^ 53 → HasValue (whole n) false n 1
unfolding of_int
whole_value n h = round_whole binary64 false n h

pub add_whole : (a b : ℕ) → a ≤ 2 ^ 53 → b ≤ 2 ^ 53 → add binary64 (whole a) (whole b) ≡ whole (a + b)
unfolding of_int sum
add_whole a b A B =
    add_value binary64 (whole a) (whole b) false false a 1 b 1 (pow_pos 0) (pow_pos 0) (whole_value a A) (whole_value b B)
    ∙ ap₂ (λ (x y : ℕ). round binary64 false (x + y) 1) (mul-one a) (mul-one b)

-- a total that has a in it already
added_whole : (a : ℕ) (ns : List ℕ) → a + total ns ≤ 2 ^ 53 → added_to (whole a) (map whole ns) ≡ whole (a + total ns)
unfolding added_to total
added_whole a [] h = ap whole (sym (add-zero a))
added_whole a (n ∷ ns) h =
    ap (λ (x : Float). added_to x (map whole ns)) (add_whole a n (le_trans (le-add_right a (n + total ns)) h) (mid a n (total ns) (2 ^ 53) h))
    ∙ added_whole (a + n) ns (le_trans (le_of_eq (add_assoc a n (total ns))) h)
    ∙ ap whole (add_assoc a n (total ns))
  where
    mid : (a n t m : ℕ) → a + (n + t) ≤ m → n ≤ m
    mid a n t m h = omega arith

zero_whole : Constants.zero ≡ whole 0
unfolding of_int
zero_whole = Constants.zero_is

short_whole : (ns : List ℕ) → total ns ≤ 2 ^ 53 → added_to Constants.zero (map whole ns) ≡ whole (total ns)
short_whole ns h = ap (λ (x : Float). added_to x (map whole ns)) zero_whole ∙ added_whole 0 ns (le_trans (le_of_eq (zero-add (total ns))) h) ∙ ap whole (zero-add (total ns))

total_split : (k : ℕ) (ns : List ℕ) → total (take k ns) + total (drop k ns) ≡ total ns
unfolding total
total_split zero ns = zero-add (total ns)
total_split (suc k) [] = refl
total_split (suc k) (n ∷ ns) = add_assoc n (total (take k ns)) (total (drop k ns)) ∙ ap (λ (t : ℕ). n + t) (total_split k ns)

take_map : (k : ℕ) (ns : List ℕ) → take k (map whole ns) ≡ map whole (take k ns)
take_map zero ns = refl
take_map (suc k) [] = refl
take_map (suc k) (n ∷ ns) = ap (λ (r : List Float). whole n ∷ r) (take_map k ns)

drop_map : (k : ℕ) (ns : List ℕ) → drop k (map whole ns) ≡ map whole (drop k ns)
drop_map zero ns = refl
drop_map (suc k) [] = refl
drop_map (suc k) (n ∷ ns) = drop_map k ns

halved_whole : (d : ℕ) (b : Bool) (ns : List ℕ) → total ns ≤ 2 ^ 53 → halved d b (map whole ns) ≡ whole (total ns)
unfolding halved
halved_whole zero b ns h = short_whole ns h
halved_whole (suc d) true ns h = short_whole ns h
halved_whole (suc d) false ns h =
    let k = length (map whole ns) / 2 in
    let split = total_split k ns in
    let F : total (take k ns) ≤ 2 ^ 53 = omega arith in
    let B : total (drop k ns) ≤ 2 ^ 53 = omega arith in
    ap₂ (λ (x y : List Float). add binary64 (halved d (short x) x) (halved d (short y) y)) (take_map k ns) (drop_map k ns)
    ∙ ap₂ (add binary64) (halved_whole d (short (map whole (take k ns))) (take k ns) F) (halved_whole d (short (map whole (drop k ns))) (drop k ns) B)
    ∙ add_whole (total (take k ns)) (total (drop k ns)) F B
    ∙ ap whole split

-- a pairwise sum of whole numbers whose total is at most 2 ^ 53 is that total
pub sum_whole : (ns : List ℕ) → total ns ≤ 2 ^ 53 → pairwise_sum (map whole ns) ≡ whole (total ns)
sum_whole ns h = halved_whole (length (map whole ns)) (short (map whole ns)) ns h

-- every number is at most b
abbrev pub EachLe : ℕ → List ℕ → Type 0
EachLe b [] = Unit
EachLe b (n ∷ ns) = (n ≤ b) × EachLe b ns

pub total_le : (b : ℕ) (ns : List ℕ) → EachLe b ns → total ns ≤ length ns * b
unfolding total
total_le b [] h = le_of_eq (sym (zero-mul b))
total_le b (n ∷ ns) h =
    let l = total_le b ns h.1 in
    let k = h.0 in
    let e : suc (length ns) * b ≡ length ns * b + b = suc-mul (length ns) b in
    omega arith

-- a pairwise sum of up to 8,192 numbers from 0 to 255
pub sum_bytes : (ns : List ℕ) → EachLe 255 ns → length ns ≤ 8192 → pairwise_sum (map whole ns) ≡ whole (total ns)
sum_bytes ns h k = sum_whole ns (let l = total_le 255 ns h in omega arith)
