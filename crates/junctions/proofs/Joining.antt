-- How many entries of a list pass a test, entry by entry from the front.
use mathlib.Core.Path.{◌≡◌, sym, ap, ◌∙◌}
use mathlib.Core.Bool.{Bool, true, false}
use mathlib.Core.List.{List, ◌∷◌}
use Prim.Native.Nat.{ℕ, ◌+◌, ◌≤◌, ◌<◌, zero-le}
use native.Mathlib.Nat.{le_refl}
use native.Mathlib.Numerals.{add-one}
use lib.ListN.{length, get_or, drop}
use lib.Seq.{drop-cons}
use Rattle.lists.specs.Lists.{one, keep}
use Rattle.lists.proofs.Sizes.{keep_size}

module _ (q : ℕ → Bool) (s : List ℕ) where
  rest : (k : ℕ) → k < length s → drop k s ≡ get_or s k 0 ∷ drop (k + 1) s
  rest k h = drop-cons s k 0 h ∙ ap (λ (m : ℕ). get_or s k 0 ∷ drop m s) (sym (add-one k))

  pub kept_step : (k : ℕ) → k < length s → length (keep q (drop k s)) ≡ one (q (get_or s k 0)) + length (keep q (drop (k + 1) s))
  kept_step k h = ap (λ (t : List ℕ). length (keep q t)) (rest k h) ∙ keep_size q (get_or s k 0) (drop (k + 1) s)

pub one_le : (b : Bool) → one b ≤ 1
one_le true = le_refl 1
one_le false = zero-le
