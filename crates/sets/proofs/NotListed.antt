-- What no listing of the closed sets holds: one set at two numbers, or an entry that is not closed.
use mathlib.Core.Path.{◌≡◌, refl, sym, ◌∙◌}
use mathlib.Core.List.{List, []}
use Prim.Native.Nat.{ℕ, ◌<◌}
use lib.ListN.{length, get_or}
use Rattle.sets.specs.Closed.{Closed, Listed}

module _ {D : ℕ → Type 0} {R : ℕ → ℕ → Type 0} {ss : List (List ℕ)} where
  pub twice_not_listed : (k l : ℕ) → k < length ss → l < length ss → (k ≡ l → ⊥) → get_or ss k [] ≡ get_or ss l [] → Listed D R ss → ⊥
  twice_not_listed k l h g differ same L =
      let O = L.once (get_or ss k []) (L.closed k h) in
      differ (O.only k h refl ∙ sym (O.only l g (sym same)))

  pub not_closed_not_listed : (k : ℕ) → k < length ss → (Closed D R (get_or ss k []) → ⊥) → Listed D R ss → ⊥
  not_closed_not_listed k h unclosed L = unclosed (L.closed k h)
