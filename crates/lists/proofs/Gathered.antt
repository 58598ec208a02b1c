-- A loop that writes the places that pass a test from the front of a list: one place more a turn.
use mathlib.Core.Path.{◌≡◌, refl, sym, ap, ◌∙◌}
use mathlib.Core.Bool.{Bool, true, false}
use mathlib.Core.List.{List, [], ◌∷◌, ◌++◌}
use Prim.Native.Nat.{ℕ, suc, ◌+◌, ◌≤◌, ◌<◌}
use native.Mathlib.Numerals.{add-one}
use native.Mathlib.Omega.{arith}
use lib.ListN.{length, set, length-append, length-set}
use Rattle.lists.specs.Lists.{below, keep, written}
use Rattle.lists.proofs.Keep.{length_below}
use Rattle.lists.proofs.Sizes.{keep_size_le, keep_one, keep_past}
use Rattle.lists.proofs.Written.{written_more}

-- The places below k that pass stand in front of a list, and n is their number.
pub record Gathered (q : ℕ → Bool) (k : ℕ) (xs xs' : List ℕ) (n : ℕ) : Type 0 where
  pub count : n ≡ length (keep q (below k))
  pub content : xs' ≡ written (keep q (below k)) xs
  pub long : length xs' ≡ length xs

module _ (q : ℕ → Bool) where
  pub gathered_none : (xs : List ℕ) → Gathered q 0 xs xs 0
  gathered_none xs = record { count = refl; content = refl; long = refl }

  module _ {k : ℕ} {xs xs' : List ℕ} {n : ℕ} (G : Gathered q k xs xs' n) where
    pub gathered_low : n ≤ k
    gathered_low = omega (arith, G.count, keep_size_le q (below k), length_below k)

    -- a place that passes goes behind those that are there
    pub gathered_one : q k ≡ true → k < length xs → Gathered q (k + 1) xs (set xs' n k) (n + 1)
    gathered_one t room =
        let more : keep q (below (k + 1)) ≡ keep q (below k) ++ (k ∷ []) = ap (λ (m : ℕ). keep q (below m)) (add-one k) ∙ keep_one q k t in
        record {
          count = add-one n ∙ ap suc G.count ∙ sym (ap length more ∙ length-append (keep q (below k)) (k ∷ []) ∙ add-one _);
          content = written_more (keep q (below k)) xs k G.content (sym G.count) (omega (arith, gathered_low)) more;
          long = length-set xs' n k ∙ G.long;
        }

    -- any other is passed over
    pub gathered_past : q k ≡ false → Gathered q (k + 1) xs xs' n
    gathered_past f =
        let same : keep q (below (k + 1)) ≡ keep q (below k) = ap (λ (m : ℕ). keep q (below m)) (add-one k) ∙ keep_past q k f in
        record { count = rw same G.count; content = rw same G.content; long = G.long }
