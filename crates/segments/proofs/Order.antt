-- The order of the rulings: the key orders as its four numbers do, and the sets stand by key, then by smallest piece index.
use mathlib.Core.Path.{◌≡◌, refl, ap, ◌∙◌}
use mathlib.Core.Bool.{Bool, true, false, cond}
use mathlib.Core.Logic.{◌⊎◌, inl, inr}
use mathlib.Core.List.{List, [], ◌∷◌, ◌++◌, map}
use Prim.Native.Nat.{ℕ, zero, suc, ◌+◌, ◌<◌}
use native.Mathlib.Decide.{dec_lt}
use native.Mathlib.Omega.{arith}
use lib.Dec.{ltb}
use lib.ListN.{length, length-append}
use Rattle.lists.specs.Lists.{below, concat}
use Rattle.lists.proofs.Keep.{map_append}
use Rattle.order.specs.Order.{place, sorted_by}
use Rattle.rects.specs.declared.Rect.{Rect}
use Rattle.rects.proofs.Questions.{Inside}
use Rattle.sets.proofs.Sizes.{concat_one}
use Rattle.ruling_lists.specs.Rulings.{ruling_key, Earlier}

-- ---- the key

module _ {a b : Rect} (ia : Inside 8192 8192 a) (ib : Inside 8192 8192 b) where
  -- the key orders as y0, x0, y1, x1 do one after the other
  pub key_orders : ruling_key a < ruling_key b → Earlier a b
  key_orders h = by_y0 (dec_lt a.y0 b.y0)
    where
      by_x1 : a.y0 ≡ b.y0 → a.x0 ≡ b.x0 → a.y1 ≡ b.y1 → a.x1 < b.x1
      by_x1 p q r = omega (arith, ia.wide, ia.high, ia.right, ia.bottom, ib.wide, ib.high, ib.right, ib.bottom)

      by_y1 : a.y0 ≡ b.y0 → a.x0 ≡ b.x0 → Dec (a.y1 < b.y1) → (a.y1 < b.y1) ⊎ ((a.y1 ≡ b.y1) × (a.x1 < b.x1))
      by_y1 p q (yes l) = inl l
      by_y1 p q (no l) =
          let e : a.y1 ≡ b.y1 = omega (arith, ia.wide, ia.high, ia.right, ia.bottom, ib.wide, ib.high, ib.right, ib.bottom) in inr (e, by_x1 p q e)

      by_x0 : a.y0 ≡ b.y0 → Dec (a.x0 < b.x0) → (a.x0 < b.x0) ⊎ ((a.x0 ≡ b.x0) × ((a.y1 < b.y1) ⊎ ((a.y1 ≡ b.y1) × (a.x1 < b.x1))))
      by_x0 p (yes l) = inl l
      by_x0 p (no l) =
          let e : a.x0 ≡ b.x0 = omega (arith, ia.wide, ia.high, ia.right, ia.bottom, ib.wide, ib.high, ib.right, ib.bottom) in inr (e, by_y1 p e (dec_lt a.y1 b.y1))

      by_y0 : Dec (a.y0 < b.y0) → Earlier a b
      by_y0 (yes l) = inl l
      by_y0 (no l) =
          let e : a.y0 ≡ b.y0 = omega (arith, ia.wide, ia.high, ia.right, ia.bottom, ib.wide, ib.high, ib.right, ib.bottom) in inr (e, by_x0 e (dec_lt a.x0 b.x0))

  -- equal keys are those of equal rectangles
  pub key_tells : ruling_key a ≡ ruling_key b → a ≡ b
  key_tells h =
      let y0 : a.y0 ≡ b.y0 = omega (arith, ia.wide, ia.high, ia.right, ia.bottom, ib.wide, ib.high, ib.right, ib.bottom) in
      let x0 : a.x0 ≡ b.x0 = omega (arith, ia.wide, ia.high, ia.right, ia.bottom, ib.wide, ib.high, ib.right, ib.bottom) in
      let y1 : a.y1 ≡ b.y1 = omega (arith, ia.wide, ia.high, ia.right, ia.bottom, ib.wide, ib.high, ib.right, ib.bottom) in
      let x1 : a.x1 ≡ b.x1 = omega (arith, ia.wide, ia.high, ia.right, ia.bottom, ib.wide, ib.high, ib.right, ib.bottom) in
      λ i. record { x0 = x0 i; y0 = y0 i; x1 = x1 i; y1 = y1 i }

-- ---- sets in another order have as many members

module _ (f : ℕ → List ℕ) (key : ℕ → ℕ) where
  abbrev size : List ℕ → ℕ
  size xs = length (concat (map f xs))

  size_place : (k : ℕ) (xs : List ℕ) → size (place key k xs) ≡ length (f k) + size xs
  unfolding place
  size_place k [] = length-append (f k) []
  size_place k (x ∷ xs) = go (size_place k xs) (ltb (key k) (key x))
    where
      go : size (place key k xs) ≡ length (f k) + size xs → (b : Bool)
          → size (cond b (k ∷ x ∷ xs) (x ∷ place key k xs)) ≡ length (f k) + size (x ∷ xs)
      go e true = length-append (f k) (concat (map f (x ∷ xs)))
      go e false = omega (arith, length-append (f x) (concat (map f (place key k xs))), length-append (f x) (concat (map f xs)))

  pub size_sorted : (n : ℕ) → size (sorted_by key n) ≡ size (below n)
  unfolding sorted_by
  size_sorted zero = refl
  size_sorted (suc n) =
      let e : size (below n ++ (n ∷ [])) ≡ size (below n) + length (f n) =
      ap (λ (w : List (List ℕ)). length (concat w)) (map_append f (below n) (n ∷ [])) ∙ ap length (concat_one (map f (below n)) (f n))
      ∙ length-append (concat (map f (below n))) (f n) in
      omega (arith, size_place n (sorted_by key n), size_sorted n)
