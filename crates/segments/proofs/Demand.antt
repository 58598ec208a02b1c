-- Demand 3 for pieces: the sets of the rulings are the closed sets in another order, and each has its smallest rectangle and one direction.
use mathlib.Core.Path.{◌≡◌, refl, sym, ap, ◌∙◌}
use mathlib.Core.Bool.{Bool, true, false}
use mathlib.Core.Logic.{inl, inr}
use mathlib.Core.List.{List, [], map}
use Prim.Native.Nat.{ℕ, ◌<◌}
use native.Mathlib.Omega.{arith}
use borrow.Author.Tests.{eqb-true}
use lib.Dec.{eqb}
use lib.ListN.{length, get_or, length-map}
use Rattle.lists.specs.Lists.{In, below, keep, concat}
use Rattle.lists.proofs.Keep.{at_in, by_place, get_d_of, get_d_map, kept_in}
use Rattle.sets.specs.Closed.{Below, Closed, Listed}
use Rattle.sets.specs.Listing.{closed_set, closed_sets}
use Rattle.sets.proofs.Ascending.{ascending_keep, ascending_below, ascending_at}
use Rattle.sets.proofs.Chains.{chain_agree}
use Rattle.sets.proofs.Grown.{closed_sets_listed}
use Rattle.sets.proofs.Reordered.{listed_ordered}
use Rattle.order.specs.Order.{key_at, Before, Sorted, sorted_indexes}
use Rattle.order.proofs.Computed.{sorted_by_lem, sorted_length}
use Rattle.rects.specs.Rects.{count, rect_at}
use Rattle.rects.specs.Steps.{AllInside, Inside}
use Rattle.rects.specs.Around.{around}
use Rattle.rects.proofs.Around.{around_smallest, around_inside}
use Rattle.pieces.specs.Pieces.{horizontal, touch, Touch}
use Rattle.ruling_lists.specs.Rulings.{piece_sets, ruling_key, ruling_keys, ordered_sets, direction_of, direction_number, StandsBefore}
use Rattle.segments.specs.Call.{Demand3, InOrder}
use Rattle.pieces.proofs.Touching.{touching_agrees}
use Rattle.segments.proofs.Order.{key_orders, key_tells, size_sorted}

number_tells : (a b : Bool) → direction_number a ≡ direction_number b → a ≡ b
number_tells true true e = refl
number_tells true false e = absurd (omega arith)
number_tells false true e = absurd (omega arith)
number_tells false false e = refl

-- each listed set begins with its smallest index, and these ascend
closed_sets_ascend : (n : ℕ) (touching : ℕ → ℕ → Bool) (a b : ℕ) → a < b → b < length (closed_sets n touching)
    → get_or (get_or (closed_sets n touching) a []) 0 0 < get_or (get_or (closed_sets n touching) b []) 0 0
unfolding closed_sets
closed_sets_ascend n touching a b l h =
    let first : ℕ → Bool = λ i. eqb (get_or (closed_set n touching i) 0 0) i in
    let roots = keep first (below n) in
    let long : b < length roots = rw (length-map roots (closed_set n touching)) at h in
    let at : (k : ℕ) → k < length roots → get_or (get_or (map (closed_set n touching) roots) k []) 0 0 ≡ get_or roots k 0 =
    λ k g. ap (λ (s : List ℕ). get_or s 0 0) (get_d_map (closed_set n touching) roots k [] g) ∙ eqb-true (get_or (closed_set n touching (get_or roots k 0)) 0 0) (get_or roots k 0) (kept_in first (below n) (get_or roots k 0) (at_in roots k g)).1 in
    omega (arith, at a (omega arith), at b long, ascending_at (ascending_keep first (ascending_below n)) a b l long)

module _ (pieces : List ℕ) (across gap : ℕ) where
  abbrev ss : List (List ℕ)
  ss = piece_sets pieces across gap

  abbrev keys : List ℕ
  keys = ruling_keys pieces ss

  abbrev order : List ℕ
  order = sorted_indexes keys

  pub keys_long : length keys ≡ length ss
  keys_long = length-map ss (λ s. ruling_key (around pieces s))

  order_long : length order ≡ length ss
  order_long = sorted_length (key_at keys) (length keys) ∙ keys_long

  sorted : Sorted (key_at keys) (length keys) order
  sorted = sorted_by_lem (key_at keys) (length keys)

  pub pieces_listed : Listed (Below (count pieces)) (Touch pieces across gap) ss
  pieces_listed = closed_sets_listed (count pieces) (touch pieces across gap)

  pub rulings_long : length (ordered_sets pieces across gap) ≡ length ss
  unfolding ordered_sets
  rulings_long = length-map order (λ k. get_or ss k []) ∙ order_long

  -- the same members, in another order
  pub rulings_size : length (concat (ordered_sets pieces across gap)) ≡ length (concat ss)
  unfolding ordered_sets
  rulings_size =
      size_sorted (λ k. get_or ss k []) (key_at keys) (length keys)
      ∙ ap (λ (n : ℕ). length (concat (map (λ k. get_or ss k []) (below n)))) keys_long ∙ ap (λ (t : List (List ℕ)). length (concat t)) (by_place ss [])

  pub rulings_listed : Listed (Below (count pieces)) (Touch pieces across gap) (ordered_sets pieces across gap)
  unfolding ordered_sets
  rulings_listed =
      listed_ordered pieces_listed order (λ k h. rw (← keys_long) (sorted.within k (short k h)))
      (λ k l h g e. let o = sorted.once (get_or order k 0) (sorted.within k (short k h)) in o.3 k (short k h) refl ∙ sym (o.3 l (short l g) (sym e)))
      (λ m h. let o = sorted.once m (rw keys_long h) in rw (sym o.2) (at_in order o.0 (rw sorted.full o.1)))
    where
      short : (k : ℕ) → k < length order → k < length keys
      short k h = rw sorted.full at h

  rulings_closed : (k : ℕ) → k < length (ordered_sets pieces across gap) → Closed (Below (count pieces)) (Touch pieces across gap) (get_or (ordered_sets pieces across gap) k [])
  rulings_closed = rulings_listed.closed

  -- the members of a set have one direction
  one_direction : {s : List ℕ} → Closed (Below (count pieces)) (Touch pieces across gap) s → (i : ℕ) → In s i → horizontal (rect_at pieces i) ≡ direction_of pieces s
  one_direction {s} C i m =
      number_tells (horizontal (rect_at pieces i)) (direction_of pieces s)
      (chain_agree (λ j. direction_number (horizontal (rect_at pieces j))) (λ a b sa sb t. ap direction_number (touching_agrees across gap (rect_at pieces a) (rect_at pieces b) t))
      (C.joined i (get_or s 0 0) m (at_in s 0 C.nonempty)))

  -- the set that ruling k is made from
  from_order : (k : ℕ) → k < length order → get_or (ordered_sets pieces across gap) k [] ≡ get_or ss (get_or order k 0) []
  unfolding ordered_sets
  from_order k h = get_d_map (λ m. get_or ss m []) order k [] h

  key_at_lem : (a : ℕ) → a < length ss → key_at keys a ≡ ruling_key (around pieces (get_or ss a []))
  key_at_lem a h = get_d_of (λ s. ruling_key (around pieces s)) ss a 0 [] h

  module _ (inside : AllInside 8192 8192 pieces) where
    set_inside : (a : ℕ) → a < length ss → Inside 8192 8192 (around pieces (get_or ss a []))
    set_inside a h = let C = pieces_listed.closed a h in around_inside pieces (get_or ss a []) C.nonempty (λ i m. inside i (C.within i m))

    stands : (a b : ℕ) → a < length ss → b < length ss → Before (key_at keys) a b → StandsBefore pieces (get_or ss a []) (get_or ss b [])
    stands a b ha hb (inl l) = inl (key_orders (set_inside a ha) (set_inside b hb) (rw (key_at_lem a ha, key_at_lem b hb) at l))
    stands a b ha hb (inr e) =
        inr (key_tells (set_inside a ha) (set_inside b hb) (sym (key_at_lem a ha) ∙ e.0 ∙ key_at_lem b hb), closed_sets_ascend (count pieces) (touch pieces across gap) a b e.1 hb)

    pub in_order : InOrder pieces (ordered_sets pieces across gap)
    in_order k l h g =
        let n : length keys ≡ length ss = keys_long in
        let lo : l < length order = omega (arith, order_long, rulings_long) in
        let lk : l < length keys = omega (arith, order_long) in
        rw (from_order k (omega arith), from_order l lo)
        (stands (get_or order k 0) (get_or order l 0) (rw (← keys_long) (sorted.within k (omega arith))) (rw (← keys_long) (sorted.within l lk)) (sorted.ascends k l h lk))

  pub demand : Demand3 pieces across gap (ordered_sets pieces across gap)
  demand =
      record {
        listed = rulings_listed;
        smallest = λ k h. around_smallest pieces (get_or (ordered_sets pieces across gap) k []) (rulings_closed k h).nonempty;
        direction = λ k i h m. one_direction (rulings_closed k h) i m;
      }
