-- The steps of the core, over plain lists: what each call leaves is what the next one asks.
use mathlib.Core.Path.{◌≡◌, sym, ap, subst, ◌∙◌}
use mathlib.Core.List.{List}
use Prim.Native.Nat.{ℕ, ◌^◌, ◌≤◌, ◌<◌}
use native.Mathlib.Omega.{arith}
use lib.Ieee.{Float}
use lib.ListN.{length}
use Rattle.lists.specs.Lists.{concat, written}
use Rattle.order.specs.Order.{key_at, sorted_indexes}
use Rattle.order.proofs.Computed.{sorted_length}
use Rattle.rects.specs.Rects.{count}
use Rattle.sets.specs.Closed.{Below, Listed}
use Rattle.sets.specs.Listing.{members_of, ends_from, ReadAs}
use Rattle.sets.proofs.Listings.{read_as}
use Rattle.ruling_lists.specs.Rulings.{piece_sets, ruling_keys, ordered_sets}
use Rattle.ruling_lists.specs.Steps.{Parts, parts_of, in_order, Strung, RoomForSets, Described, RoomForRulings, SetsListed, SetsOrdered}
use Rattle.paper.specs.Pixels.{Raster}
use Rattle.ruling_questions.specs.Lent.{Lent}
use Rattle.segments.specs.Steps.{Roomy, Made}
use Rattle.ruling_lists.proofs.Parts.{parts_are, part_is, order_is}
use Rattle.segments.proofs.Demand.{pieces_listed, rulings_listed, rulings_long, rulings_size, keys_long}

pub still : {r n a b : ℕ} → r ≤ n → n ≤ a → b ≡ a → r ≤ b
still h k e = omega arith

-- the parts of a listing of closed sets have members, which are pieces
listing_parts : (pieces : List ℕ) {R : ℕ → ℕ → Type 0} (ss : List (List ℕ)) (m e : List ℕ) → Listed (Below (count pieces)) R ss → length (concat ss) ≤ length m → length ss ≤ length e
    → {ms es : List ℕ} {r : ℕ} → ms ≡ written (concat ss) m → es ≡ written (ends_from 0 ss) e → r ≡ length ss → Parts pieces (members_of ms es r) r
listing_parts pieces ss m e L room ends {ms} {es} {r} p q c =
    record {
      some = λ k h. rw (part_is ss m e room ends p q c k) (L.closed k (rw c at h)).nonempty;
      known = λ k i h j. (L.closed k (rw c at h)).within i (rw (part_is ss m e room ends p q c k) at j);
    }

-- and the lists give each set back
listing_read : (ss : List (List ℕ)) (m e : List ℕ) → length (concat ss) ≤ length m → length ss ≤ length e
    → {ms es : List ℕ} {r : ℕ} → ms ≡ written (concat ss) m → es ≡ written (ends_from 0 ss) e → r ≡ length ss → ReadAs ss ms es r
listing_read ss m e room ends p q c = rw (p, q, c) (read_as ss m e room ends)

module _ (pieces : List ℕ) (across gap : ℕ) {ls le ls' le' : List ℕ} {r : ℕ} (L : SetsListed (piece_sets pieces across gap) (count pieces) ls le ls' le' r) where
  pub few_sets : r ≤ count pieces
  few_sets = omega (arith, L.few, L.count)

  pub small_count : count pieces ≤ 4096 → r < 2 ^ 32
  small_count h = omega (arith, few_sets)

  long : r ≡ length (ordered_sets pieces across gap)
  long = L.count ∙ sym (rulings_long pieces across gap)

  fits : {k : ℕ} → count pieces ≤ k → length (concat (ordered_sets pieces across gap)) ≤ k
  fits h = omega (arith, rulings_size pieces across gap, L.within)

  few : {k : ℕ} → count pieces ≤ k → length (ordered_sets pieces across gap) ≤ k
  few h = omega (arith, long, few_sets)

  pub rulings_room : {rs ds : List ℕ} {cs : List Float} → RoomForRulings (count pieces) rs ds cs → RoomForRulings r rs ds cs
  rulings_room R = record { rects = omega (arith, few_sets, R.rects); directions = omega (arith, few_sets, R.directions); contrasts = omega (arith, few_sets, R.contrasts) }

  module _ (room : count pieces ≤ length ls) (ends : count pieces ≤ length le) where
    listed_room : length (concat (piece_sets pieces across gap)) ≤ length ls
    listed_room = omega (arith, L.within)

    listed_ends_room : length (piece_sets pieces across gap) ≤ length le
    listed_ends_room = omega (arith, L.few)

    pub listed_parts : Parts pieces (members_of ls' le' r) r
    listed_parts =
        listing_parts pieces (piece_sets pieces across gap) ls le (pieces_listed pieces across gap) listed_room listed_ends_room L.strung.members L.strung.ends L.count

    module _ {o order : List ℕ} (sorted : SetsOrdered pieces (members_of ls' le' r) r o order) where
      ordered_as : in_order (members_of ls' le' r) r order ≡ ordered_sets pieces across gap
      unfolding ordered_sets
      ordered_as =
          let ss = piece_sets pieces across gap in
          let ks = sorted_indexes (ruling_keys pieces ss) in
          let same = parts_are ss ls le listed_room listed_ends_room L.strung.members L.strung.ends L.count in
          order_is ss ls le listed_room listed_ends_room o ks order L.strung.members L.strung.ends L.count
          (sorted.content ∙ ap (λ (t : List (List ℕ)). written (sorted_indexes (ruling_keys pieces t)) o) same)
          (sorted_length (key_at (ruling_keys pieces ss)) (length (ruling_keys pieces ss)) ∙ keys_long pieces across gap)

      pub sets_room : {ms es : List ℕ} → count pieces ≤ 4096 → count pieces ≤ length ms → count pieces ≤ length es → RoomForSets (in_order (members_of ls' le' r) r order) ms es
      sets_room {ms} {es} h m e =
          subst (λ (ss : List (List ℕ)). RoomForSets ss ms es) (sym ordered_as) (record { members = fits m; ends = few e; small = omega (arith, fits h) })

      pub sets_strung : {ms es ms' es' : List ℕ} → Strung (in_order (members_of ls' le' r) r order) ms es ms' es' → Strung (ordered_sets pieces across gap) ms es ms' es'
      sets_strung {ms} {es} {ms'} {es'} S = subst (λ (ss : List (List ℕ)). Strung ss ms es ms' es') ordered_as S

  module _ {ms es ms' es' : List ℕ} (S : Strung (ordered_sets pieces across gap) ms es ms' es') (room : count pieces ≤ length ms) (ends : count pieces ≤ length es) where
    pub strung_parts : Parts pieces (members_of ms' es' r) r
    strung_parts = listing_parts pieces (ordered_sets pieces across gap) ms es (rulings_listed pieces across gap) (fits room) (few ends) S.members S.ends long

  pub made : {raster : Raster} (l l' : Lent) → Strung (ordered_sets pieces across gap) l.piece_members l.piece_ends l'.piece_members l'.piece_ends → Roomy (count pieces) l
      → Described raster pieces (parts_of (members_of l'.piece_members l'.piece_ends r) r) l.rects l.directions l.contrasts l'.rects l'.directions l'.contrasts
      → Made raster pieces (ordered_sets pieces across gap) l l' r
  made {raster} l l' S R D =
      let same = parts_are (ordered_sets pieces across gap) l.piece_members l.piece_ends (fits R.members) (few R.ends) S.members S.ends long in
      record {
        few = few_sets;
        count = long;
        described = subst (λ (ss : List (List ℕ)). Described raster pieces ss l.rects l.directions l.contrasts l'.rects l'.directions l'.contrasts) same D;
        strung = S;
        read = listing_read (ordered_sets pieces across gap) l.piece_members l.piece_ends (fits R.members) (few R.ends) S.members S.ends long;
      }
