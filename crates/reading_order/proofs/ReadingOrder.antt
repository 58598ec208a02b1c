-- The reading order: the key orders as y0, then x0, and equal keys stand by their place in the set, which ascends.
use mathlib.Core.Path.{◌≡◌, sym, ap, ◌∙◌, subst}
use mathlib.Core.Logic.{◌⊎◌, inl, inr}
use mathlib.Core.List.{List, ◌++◌, map}
use Prim.Native.Nat.{ℕ, ◌<◌}
use native.Mathlib.Decide.{dec_lt}
use native.Mathlib.Omega.{arith}
use lib.ListN.{length, get_or, take, drop, length-map}
use lib.Seq.{sets, take_at}
use Rattle.lists.specs.Lists.{In, written}
use Rattle.lists.proofs.Keep.{in_at, at_in, get_d_map}
use Rattle.lists.proofs.Written.{written_at}
use Rattle.order.specs.Order.{key_at, Before, StandsOnce, Sorted, sorted_indexes}
use Rattle.order.proofs.Computed.{sorted_length, sorted_by_lem}
use Rattle.rects.specs.declared.Rect.{Rect}
use Rattle.rects.specs.Rects.{rect_at}
use Rattle.rects.specs.Steps.{Inside}
use Rattle.sets.specs.Closed.{Ascending}
use Rattle.sets.proofs.Ascending.{ascending_at, one_place}
use Rattle.reading_order.specs.Reading.{ReadBefore, InReadingOrder, reading_key, reading_keys, reading_order}

-- ---- the key

module _ {a b : Rect} (ia : Inside 8192 8192 a) (ib : Inside 8192 8192 b) where
  -- the key orders as y0, x0 do one after the other
  pub reading_orders : reading_key a < reading_key b → (a.y0 < b.y0) ⊎ ((a.y0 ≡ b.y0) × (a.x0 < b.x0))
  reading_orders h = go (dec_lt a.y0 b.y0)
    where
      go : Dec (a.y0 < b.y0) → (a.y0 < b.y0) ⊎ ((a.y0 ≡ b.y0) × (a.x0 < b.x0))
      go (yes l) = inl l
      go (no l) =
          let e : a.y0 ≡ b.y0 = omega (arith, ia.wide, ia.right, ib.wide, ib.right) in inr (e, omega (arith, ia.wide, ia.right, ib.wide, ib.right))

  -- and tells y0 and x0 apart
  pub reading_tells : reading_key a ≡ reading_key b → (a.y0 ≡ b.y0) × (a.x0 ≡ b.x0)
  reading_tells h = (omega (arith, ia.wide, ia.right, ib.wide, ib.right), omega (arith, ia.wide, ia.right, ib.wide, ib.right))

-- ---- the order of one set

module _ (rects set : List ℕ) where
  abbrev pub places : List ℕ
  places = sorted_indexes (reading_keys rects set)

  keys_long : length (reading_keys rects set) ≡ length set
  keys_long = length-map set (λ i. reading_key (rect_at rects i))

  pub places_long : length places ≡ length set
  places_long = sorted_length (key_at (reading_keys rects set)) (length (reading_keys rects set)) ∙ keys_long

  sorted : Sorted (key_at (reading_keys rects set)) (length set) places
  sorted = subst (λ (n : ℕ). Sorted (key_at (reading_keys rects set)) n places) keys_long (sorted_by_lem (key_at (reading_keys rects set)) (length (reading_keys rects set)))

  pub reading_long : length (reading_order rects set) ≡ length set
  unfolding reading_order
  reading_long = length-map places (λ k. get_or set k 0) ∙ places_long

  pub place_within : (k : ℕ) → k < length set → get_or places k 0 < length set
  place_within k h = sorted.within k h

  key_is : (k : ℕ) → k < length set → key_at (reading_keys rects set) k ≡ reading_key (rect_at rects (get_or set k 0))
  key_is k h = get_d_map (λ i. reading_key (rect_at rects i)) set k 0 h

  reading_at : (k : ℕ) → k < length set → get_or (reading_order rects set) k 0 ≡ get_or set (get_or places k 0) 0
  unfolding reading_order
  reading_at k h = get_d_map (λ k. get_or set k 0) places k 0 (rw places_long h)

  module _ (up : Ascending set) (inside : (i : ℕ) → In set i → Inside 8192 8192 (rect_at rects i)) where
    read_before : (a b : ℕ) → a < length set → b < length set → Before (key_at (reading_keys rects set)) a b → ReadBefore rects (get_or set a 0) (get_or set b 0)
    read_before a b la lb (inl h) =
        by (rect_at rects (get_or set a 0)) (rect_at rects (get_or set b 0)) (reading_orders (inside (get_or set a 0) (at_in set a la)) (inside (get_or set b 0) (at_in set b lb)) (rw (key_is a la, key_is b lb) at h))
      where
        by : (x y : Rect) → (x.y0 < y.y0) ⊎ ((x.y0 ≡ y.y0) × (x.x0 < y.x0))
            → (x.y0 < y.y0) ⊎ ((x.y0 ≡ y.y0) × ((x.x0 < y.x0) ⊎ ((x.x0 ≡ y.x0) × (get_or set a 0 < get_or set b 0))))
        by x y (inl l) = inl l
        by x y (inr l) = inr (l.0, inl l.1)
    read_before a b la lb (inr h) =
        let same = reading_tells (inside (get_or set a 0) (at_in set a la)) (inside (get_or set b 0) (at_in set b lb)) (sym (key_is a la) ∙ h.0 ∙ key_is b lb) in
        inr (same.0, inr (same.1, ascending_at up a b h.1 lb))

    once : (i : ℕ) → In set i → StandsOnce (length set) (reading_order rects set) i
    once i m =
        let w = in_at set i m in
        let o = sorted.once w.0 w.1 in (
          o.0,
          o.1,
          reading_at o.0 o.1 ∙ ap (λ (k : ℕ). get_or set k 0) o.2 ∙ w.2,
          λ j l e. o.3 j l (one_place up (get_or places j 0) w.0 (place_within j l) w.1 (sym (reading_at j l) ∙ e ∙ sym w.2)),
        )

    pub in_reading_order : InReadingOrder rects set (reading_order rects set)
    in_reading_order =
        record {
          full = reading_long;
          members = λ k h. let l : k < length set = rw reading_long at h in rw (reading_at k l) (at_in set (get_or places k 0) (place_within k l));
          once = λ i m. rw reading_long (once i m);
          ordered = λ k l h m.
              let n : l < length set = rw reading_long at m in
              let o : k < length set = omega arith in
              rw (reading_at k o, reading_at l n)
              (read_before (get_or places k 0) (get_or places l 0) (place_within k o) (place_within l n) (sorted.ascends k l h n));
        }

  -- ---- what the steps of the code leave

  keys_front : (keys : List ℕ) {keys' : List ℕ} → keys' ≡ written (reading_keys rects set) keys → take (length set) keys' ≡ reading_keys rects set
  keys_front keys e = ap (take (length set)) e ∙ take_at (reading_keys rects set) (drop (length (reading_keys rects set)) keys) (length set) keys_long

  pub sorted_places : (keys order : List ℕ) {keys' order' : List ℕ} → keys' ≡ written (reading_keys rects set) keys
      → order' ≡ sorted_indexes (take (length set) keys') ++ drop (length (take (length set) keys')) order → order' ≡ written places order
  sorted_places keys order e f =
      f ∙ ap (λ (ks : List ℕ). sorted_indexes ks ++ drop (length ks) order) (keys_front keys e)
      ∙ ap (λ (n : ℕ). places ++ drop n order) (keys_long ∙ sym places_long)

  pub order_within : (order : List ℕ) {order' : List ℕ} → order' ≡ written places order → (k : ℕ) → k < length set → get_or order' k 0 < length set
  order_within order e k h = rw (e, written_at places order k 0 (rw places_long h)) (place_within k h)

  pub read_done : (order out : List ℕ) (at : ℕ) {order' out' : List ℕ} → order' ≡ written places order
      → out' ≡ sets out at (map (λ i. get_or set i 0) (take (length set) order')) → out' ≡ sets out at (reading_order rects set)
  unfolding reading_order
  read_done order out at e f =
      f ∙ ap (λ (w : List ℕ). sets out at (map (λ i. get_or set i 0) w)) (ap (take (length set)) e ∙ take_at places (drop (length places) order) (length set) places_long)
