-- What each entry of a list gives, added up: one entry more, and a list cut at half its length.
use mathlib.Core.Path.{◌≡◌, sym, ap, ap₂, ◌∙◌}
use mathlib.Core.List.{List, ◌∷◌, map}
use Prim.Native.Nat.{ℕ, suc, ◌+◌, ◌-◌, ◌/◌, ◌≤◌, ◌<◌}
use native.Mathlib.Numerals.{add-one}
use lib.Ieee.{Float, binary64, add}
use lib.ListN.{length, get_or, take, drop, length-map}
use lib.Seq.{drop-cons}
use borrow.Author.Rules.{part_to_end}
use Rattle.std.proofs.lemmas.List.{take-map, drop-map, drop_all}
use Rattle.math.specs.Constants.{zero}
unfoldable pub use Rattle.math.specs.Sum.{added_to}
use Rattle.math.specs.Sum.{pairwise_sum}
use Rattle.math.proofs.Sums.{sum_of_short, sum_of_long}

module _ {X : Type 0} (v : X → Float) (xs : List X) where
  pub added_one : (s : Float) {r : Float} {x : X} (i : ℕ) → i < length xs → x ≡ get_or xs i x → r ≡ v x
      → added_to (add binary64 s r) (map v (drop (i + 1) xs)) ≡ added_to s (map v (drop i xs))
  unfolding added_to
  added_one s {r} {x} i h is e =
      rw (add-one i)
      (ap (λ (t : Float). added_to (add binary64 s t) (map v (drop (suc i) xs))) e ∙ ap (λ (y : X). added_to s (map v (y ∷ drop (suc i) xs))) is
      ∙ ap (λ (ys : List X). added_to s (map v ys)) (sym (drop-cons xs i x h)))

  pub added_none : (s : Float) (i : ℕ) → length xs ≤ i → added_to s (map v (drop i xs)) ≡ s
  unfolding added_to
  added_none s i h = ap (λ (ys : List X). added_to s (map v ys)) (drop_all i xs h)

  pub short_sum : {r : Float} → length xs ≤ 8 → r ≡ added_to zero (map v xs) → r ≡ pairwise_sum (map v xs)
  short_sum h e = e ∙ sym (sum_of_short (map v xs) (rw (length-map xs v) h))

  pub halves_sum : {a b : Float} → 8 < length xs → a ≡ pairwise_sum (map v (take (length xs / 2) xs))
      → b ≡ pairwise_sum (map v (take (length xs - length xs / 2) (drop (length xs / 2) xs))) → add binary64 a b ≡ pairwise_sum (map v xs)
  halves_sum h e f =
      let n = length xs in
      let long : length (map v xs) ≡ n = length-map xs v in
      ap₂ (add binary64)
      (e ∙ ap pairwise_sum (sym (take-map v (n / 2) xs) ∙ ap (λ (m : ℕ). take (m / 2) (map v xs)) (sym long)))
      (f ∙ ap (λ (t : List X). pairwise_sum (map v t)) (part_to_end xs (n / 2))
      ∙ ap pairwise_sum (sym (drop-map v (n / 2) xs) ∙ ap (λ (m : ℕ). drop (m / 2) (map v xs)) (sym long)))
      ∙ sym (sum_of_long (map v xs) (rw long h))
