-- The parts of a listing are its sets, also where they are read in another order.
use mathlib.Core.Path.{◌≡◌, sym, ap, ◌∙◌}
use mathlib.Core.List.{List, [], map}
use Prim.Native.Nat.{ℕ, ◌≤◌, ◌<◌}
use lib.ListN.{length, get_or}
use Rattle.lists.specs.Lists.{below, concat, written}
use Rattle.lists.proofs.Keep.{map_map, map_same, by_place, below_in}
use Rattle.lists.proofs.Written.{written_at}
use Rattle.sets.specs.Listing.{members_of, ends_from}
use Rattle.sets.proofs.Listings.{members_listed}
use Rattle.ruling_lists.specs.Steps.{parts_of, in_order}

module _ (ss : List (List ℕ)) (m e : List ℕ) (room : length (concat ss) ≤ length m) (ends : length ss ≤ length e) where
  pub parts_are : {ms es : List ℕ} {n : ℕ} → ms ≡ written (concat ss) m → es ≡ written (ends_from 0 ss) e → n ≡ length ss → parts_of (members_of ms es n) n ≡ ss
  parts_are p q r =
      rw (p, q, r) (map_same (members_of (written (concat ss) m) (written (ends_from 0 ss) e) (length ss)) (λ k. get_or ss k []) (below (length ss))
      (λ k h. members_listed ss m e room ends k) ∙ by_place ss [])

  pub part_is : {ms es : List ℕ} {n : ℕ} → ms ≡ written (concat ss) m → es ≡ written (ends_from 0 ss) e → n ≡ length ss → (k : ℕ) → members_of ms es n k ≡ get_or ss k []
  part_is p q r k = rw (p, q, r) (members_listed ss m e room ends k)

  pub order_is : (o ks order : List ℕ) {ms es : List ℕ} {n : ℕ} → ms ≡ written (concat ss) m → es ≡ written (ends_from 0 ss) e → n ≡ length ss
      → order ≡ written ks o → length ks ≡ length ss → in_order (members_of ms es n) n order ≡ map (λ k. get_or ss k []) ks
  order_is o ks order p q r w l =
      rw (p, q, r) (map_same (λ k. members_of (written (concat ss) m) (written (ends_from 0 ss) e) (length ss) (get_or order k 0)) (λ k. get_or ss (get_or ks k 0) []) (below (length ss))
      (λ k h. members_listed ss m e room ends (get_or order k 0) ∙ ap (λ i. get_or ss i []) (stands k (below_in (length ss) k h)))
      ∙ ap (λ i. map (λ k. get_or ss (get_or ks k 0) []) (below i)) (sym l)
      ∙ sym (map_map (λ i. get_or ss i []) (λ k. get_or ks k 0) (below (length ks))) ∙ ap (map (λ i. get_or ss i [])) (by_place ks 0))
    where
      stands : (k : ℕ) → k < length ss → get_or order k 0 ≡ get_or ks k 0
      stands k h = rw w (written_at ks o k 0 (rw l h))
