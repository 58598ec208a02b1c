-- The bound of a pairwise sum: n values of at most b each make a sum of at most n * b, as long as that is below 2 ^ 53.
use mathlib.Core.Path.{◌≡◌, refl, sym, ap, ◌∙◌, subst}
use Prim.Native.Nat.{ℕ, zero, suc, ◌+◌, ◌*◌, ◌/◌, ◌^◌, ◌<◌}
use native.Mathlib.Nat.{le_of_eq, lt_of_le_of_lt, le-add_left, le-add_right, zero-add, add-mul, suc-mul}
use native.Mathlib.Omega.{arith}
use mathlib.Core.Bool.{Bool, true, false}
use mathlib.Core.List.{List, [], ◌∷◌}
use lib.ListN.{length, take, drop, length-append, take-append-drop}
use lib.Ieee.{Float, binary64, add}
use Rattle.math.specs.Constants as Constants
use Rattle.math.specs.Sum.{added_to, short, halved, pairwise_sum}
use Rattle.math.proofs.Bound.{AtMost, weaken, add_at_most}

-- every value is at most b in size
abbrev pub Each : ℕ → List Float → Type 0
Each b [] = Unit
Each b (x ∷ xs) = AtMost b x × Each b xs

each_take : (b k : ℕ) (xs : List Float) → Each b xs → Each b (take k xs)
each_take b zero xs h = tt
each_take b (suc k) [] h = tt
each_take b (suc k) (x ∷ xs) h = (h.0, each_take b k xs h.1)

each_drop : (b k : ℕ) (xs : List Float) → Each b xs → Each b (drop k xs)
each_drop b zero xs h = h
each_drop b (suc k) [] h = tt
each_drop b (suc k) (x ∷ xs) h = each_drop b k xs h.1

-- n times b more than a
added_at_most : (a b : ℕ) (s : Float) (xs : List Float) → AtMost a s → Each b xs → a + length xs * b < 2 ^ 53 → AtMost (a + length xs * b) (added_to s xs)
unfolding added_to
added_at_most a b s [] h k small = weaken a (a + 0 * b) s (le-add_right a (0 * b)) h
added_at_most a b s (x ∷ xs) h k small =
    let n = length xs in
    let e : a + b + n * b ≡ a + suc n * b = let m : suc n * b ≡ n * b + b = suc-mul n b in omega arith in
    subst (λ (t : ℕ). AtMost t (added_to (add binary64 s x) xs)) e
    (added_at_most (a + b) b (add binary64 s x) xs (add_at_most binary64 a b s x h k.0 (lt_of_le_of_lt (le-add_right (a + b) (n * b)) (lt_of_le_of_lt (le_of_eq e) small))) k.1 (lt_of_le_of_lt (le_of_eq e) small))

zero_at_most : AtMost 0 Constants.zero
unfolding lib.Ieee.of_bits
zero_at_most = record { finite = tt; size = le_of_eq refl }

short_at_most : (b : ℕ) (xs : List Float) → Each b xs → length xs * b < 2 ^ 53 → AtMost (length xs * b) (added_to Constants.zero xs)
short_at_most b xs k small =
    subst (λ (t : ℕ). AtMost t (added_to Constants.zero xs)) (zero-add (length xs * b))
    (added_at_most 0 b Constants.zero xs zero_at_most k (lt_of_le_of_lt (le_of_eq (zero-add (length xs * b))) small))

halved_at_most : (d : ℕ) (t : Bool) (b : ℕ) (xs : List Float) → Each b xs → length xs * b < 2 ^ 53 → AtMost (length xs * b) (halved d t xs)
unfolding halved
halved_at_most zero t b xs k small = short_at_most b xs k small
halved_at_most (suc d) true b xs k small = short_at_most b xs k small
halved_at_most (suc d) false b xs k small =
    let h = length xs / 2 in
    let front = take h xs in
    let back = drop h xs in
    let e : length front * b + length back * b ≡ length xs * b = sym (add-mul (length front) (length back) b) ∙ ap (λ (n : ℕ). n * b) (sym (length-append front back) ∙ ap length (take-append-drop h xs)) in
    let both : length front * b + length back * b < 2 ^ 53 = lt_of_le_of_lt (le_of_eq e) small in
    subst (λ (n : ℕ). AtMost n (add binary64 (halved d (short front) front) (halved d (short back) back))) e
    (add_at_most binary64 (length front * b) (length back * b) (halved d (short front) front) (halved d (short back) back)
    (halved_at_most d (short front) b front (each_take b h xs k) (lt_of_le_of_lt (le-add_right (length front * b) (length back * b)) both))
    (halved_at_most d (short back) b back (each_drop b h xs k) (lt_of_le_of_lt (le-add_left (length back * b) (length front * b)) both)) both)

pub pairwise_at_most : (b : ℕ) (xs : List Float) → Each b xs → length xs * b < 2 ^ 53 → AtMost (length xs * b) (pairwise_sum xs)
pairwise_at_most b xs k small = halved_at_most (length xs) (short xs) b xs k small
