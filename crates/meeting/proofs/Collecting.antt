-- Positions that pass a test are gathered from the front; what fails is overwritten by the next.
use mathlib.Core.Path.{◌≡◌, sym, ap, ap₂, ◌∙◌}
use mathlib.Core.Bool.{Bool, true, false, cond}
use mathlib.Core.List.{List, [], ◌∷◌, ◌++◌, map, append-nil}
use Prim.Native.Nat.{ℕ, ◌+◌, ◌≤◌, ◌<◌}
use native.Mathlib.Nat.{le_refl, add-zero}
use native.Mathlib.Numerals.{add-one}
use native.Mathlib.Omega.{arith}
use Rattle.std.specs.Int.{from_bool}
use lib.ListN.{length, get_or, take, set, length-append}
use lib.Seq.{take-suc, take-suc-set, take-set-le}
use Rattle.lists.specs.Lists.{keep}
use Rattle.lists.proofs.Keep.{keep_append, map_append}

module _ (q : ℕ → Bool) (f : ℕ → ℕ) (members : List ℕ) where
  -- the first k members are seen, and n of them passed
  pub record Gathering (l : List ℕ) (n k : ℕ) : Type 0 where
    pub count : n ≡ length (keep q (take k members))
    pub content : take n l ≡ map f (keep q (take k members))
    pub low : n ≤ k

  seen : (k : ℕ) (b : Bool) → k < length members → b ≡ q (get_or members k 0)
      → keep q (take (k + 1) members) ≡ keep q (take k members) ++ cond b (get_or members k 0 ∷ []) []
  seen k b h e =
      ap (λ (m : ℕ). keep q (take m members)) (add-one k) ∙ ap (keep q) (take-suc members k 0 h)
      ∙ keep_append q (take k members) (get_or members k 0 ∷ [])
      ∙ ap (λ (t : Bool). keep q (take k members) ++ cond t (get_or members k 0 ∷ []) []) (sym e)

  pub gather_turn : {l : List ℕ} {n k v : ℕ} (b : Bool) → Gathering l n k → k < length members → length members ≤ length l
      → v ≡ f (get_or members k 0) → b ≡ q (get_or members k 0) → Gathering (set l n v) (n + from_bool b) (k + 1)
  gather_turn {l} {n} {k} {v} true G h room e t =
      let kept : keep q (take (k + 1) members) ≡ keep q (take k members) ++ (get_or members k 0 ∷ []) = seen k true h t in
      record {
        count = ap (λ (m : ℕ). m + 1) G.count ∙ sym (ap length kept ∙ length-append (keep q (take k members)) (get_or members k 0 ∷ []));
        content =
            ap (λ (j : ℕ). take j (set l n v)) (add-one n) ∙ take-suc-set l n v (omega (arith, G.low))
            ∙ ap₂ (λ (xs : List ℕ) (x : ℕ). xs ++ (x ∷ [])) G.content e
            ∙ sym (map_append f (keep q (take k members)) (get_or members k 0 ∷ [])) ∙ ap (map f) (sym kept);
        low = omega (arith, G.low);
      }
  gather_turn {l} {n} {k} {v} false G h room e t =
      let kept : keep q (take (k + 1) members) ≡ keep q (take k members) = seen k false h t ∙ append-nil (keep q (take k members)) in
      record {
        count = add-zero n ∙ G.count ∙ sym (ap length kept);
        content = ap (λ (j : ℕ). take j (set l n v)) (add-zero n) ∙ take-set-le n l n v (le_refl n) ∙ G.content ∙ ap (λ (xs : List ℕ). map f xs) (sym kept);
        low = omega (arith, G.low);
      }
