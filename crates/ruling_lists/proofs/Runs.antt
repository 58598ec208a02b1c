-- Lists that a loop writes from the front: one end a turn, and runs of four.
use mathlib.Core.Path.{◌≡◌, ap, ◌∙◌}
use mathlib.Core.List.{List, [], ◌∷◌, ◌++◌, map}
use Prim.Native.Nat.{ℕ, ◌+◌, ◌*◌, ◌<◌}
use native.Mathlib.Omega.{arith}
use lib.ListN.{length, set}
use Rattle.lists.specs.Lists.{below, written}
use Rattle.lists.proofs.Keep.{length_below, length_values, values_more}
use Rattle.lists.proofs.Written.{written_more}
use Rattle.lists.proofs.Runs.{total, total_next, strung_size}
use Rattle.sets.specs.Listing.{ends_from}
use Rattle.sets.proofs.Sizes.{ends_one, length_ends}

-- one end more
pub end_written : (f : ℕ → List ℕ) (lent : List ℕ) {l : List ℕ} {k at : ℕ} → l ≡ written (ends_from 0 (map f (below k))) lent → k < length lent → at ≡ total f (k + 1)
    → set l k at ≡ written (ends_from 0 (map f (below (k + 1)))) lent
end_written f lent {l} {k} {at} e h a =
    written_more (ends_from 0 (map f (below k))) lent at e (length_ends 0 (map f (below k)) ∙ length_values f k) h
    (ap (ends_from 0) (values_more f k) ∙ ends_one 0 (map f (below k)) (f k)
    ∙ ap (λ (x : ℕ). ends_from 0 (map f (below k)) ++ (x ∷ [])) (omega (arith, total_next f k)))

-- runs of four
pub total_four : (f : ℕ → List ℕ) → ((k : ℕ) → length (f k) ≡ 4) → (k : ℕ) → total f k ≡ 4 * k
total_four f four k = strung_size f 4 four (below k) ∙ ap (λ (n : ℕ). 4 * n) (length_below k)
