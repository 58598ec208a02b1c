-- From the listing to the answers: the member list gives each closed set back, so what the passes leave is what the definitions say.
use Rattle.std.specs.Prelude.{◌≡◌, ℕ, ◌<◌, ◌≤◌, List, [], map, length, get_or}
use mathlib.Core.Path.{sym, ap, ◌∙◌, subst}
use native.Mathlib.Omega.{arith}
use lib.ListN.{length-map, get_or-eq_default}
use Rattle.lists.specs.Lists.{below, concat, written}
use Rattle.lists.proofs.Keep.{length_below, in_below, map_map, by_place}
use Rattle.rects.specs.Rects.{count}
use Rattle.sets.specs.Listing.{members_of, ReadAs}
use Rattle.sets.proofs.Ascending.{ascending_below, sublist}
use Rattle.sets.proofs.Listings.{members_listed, read_as}
use Rattle.sets.proofs.Sizes.{sets_few, ends_exchanged, total_exchanged}
use Rattle.sets.proofs.Grown.{closed_sets_listed}
use Rattle.box_sets.specs.Boxes.{touch, box_sets}
use Rattle.box_sets.specs.Steps.{Connected}
use Rattle.reading_order.specs.Reading.{reading_order}
use Rattle.reading_order.specs.Steps.{Indexes, SetsIn}
use Rattle.reading_order.proofs.ReadingOrder.{reading_long}
use Rattle.grids.specs.Grids.{readings}
use Rattle.grids.specs.Lent.{Lent}
use Rattle.grids.specs.Steps.{Chose, Filled}

module _ (rects : List ℕ) (limit : ℕ) {m e m' e' : List ℕ} {r : ℕ} (C : Connected rects limit m e m' e' r) (room : count rects ≤ length m)
    (wide : count rects ≤ length e) where
  -- the member list gives each set back
  each : (k : ℕ) → members_of m' e' r k ≡ get_or (box_sets rects limit) k []
  each k =
      rw (C.members, C.ends, C.sets)
      (members_listed (box_sets rects limit) m e (omega (arith, C.total)) (omega (arith, sets_few (count rects) (touch rects limit))) k)

  pub set_is : members_of m' e' r ≡ (λ k. get_or (box_sets rects limit) k [])
  set_is = λ i k. each k i

  pub read : ReadAs (box_sets rects limit) m' e' r
  read = record { each = λ k h. each k; none = λ k h. each k ∙ get_or-eq_default (box_sets rects limit) [] (rw C.sets at h) }

  -- and the reading orders, which are as long, stand in the same places
  pub read_order : (rd : List ℕ) {rd' : List ℕ} → count rects ≤ length rd → rd' ≡ written (readings rects (box_sets rects limit)) rd
      → ReadAs (map (reading_order rects) (box_sets rects limit)) rd' e' r
  read_order rd long f =
      let ss = box_sets rects limit in
      let tt = map (reading_order rects) ss in
      rw (f, C.ends, C.sets, sym (length-map ss (reading_order rects)), sym (ends_exchanged (reading_order rects) (reading_long rects) 0 ss))
      (read_as tt rd e (omega (arith, total_exchanged (reading_order rects) (reading_long rects) ss, C.total))
      (omega (arith, length-map ss (reading_order rects), sets_few (count rects) (touch rects limit))))

  inside : (k : ℕ) → k < length (box_sets rects limit) → Indexes (count rects) (get_or (box_sets rects limit) k [])
  inside k h =
      let c = (closed_sets_listed (count rects) (touch rects limit)).closed k h in
      record {
        within = c.within;
        short = rw (length_below (count rects)) at (sublist c.ascending (ascending_below (count rects)) (λ i m. in_below (count rects) i (c.within i m))).0;
      }

  pub sets_in : SetsIn (count rects) (members_of m' e' r) r
  sets_in =
      rw (set_is, C.sets)
      (record { few = sets_few (count rects) (touch rects limit); inside = inside; total = rw (by_place (box_sets rects limit) []) C.total })

module _ (rects : List ℕ) (limit least : ℕ) (l l' : Lent) where
  pub filled : {r g : ℕ} {f : ℕ → List ℕ} → Connected rects limit l.members l.ends l'.members l'.ends r → f ≡ (λ k. get_or (box_sets rects limit) k [])
      → count rects ≤ length l.members → count rects ≤ length l.ends → count rects ≤ length l.reading
      → l'.reading ≡ written (concat (map (λ k. reading_order rects (f k)) (below r))) l.reading → Chose least f r l.numbers l'.numbers g
      → Filled rects limit least l l' r g
  filled {r} {g} {f} C ef hm he hr R H =
      let ss = box_sets rects limit in
      let H₁ : Chose least f (length ss) l.numbers l'.numbers g = subst (λ (c : ℕ). Chose least f c l.numbers l'.numbers g) C.sets H in
      let H₂ = subst (λ (h : ℕ → List ℕ). Chose least h (length ss) l.numbers l'.numbers g) ef H₁ in
      let R₁ : l'.reading ≡ written (concat (map (λ k. reading_order rects (f k)) (below (length ss)))) l.reading =
      subst (λ (c : ℕ). l'.reading ≡ written (concat (map (λ k. reading_order rects (f k)) (below c))) l.reading) C.sets R in
      let R₂ = subst (λ (h : ℕ → List ℕ). l'.reading ≡ written (concat (map (λ k. reading_order rects (h k)) (below (length ss)))) l.reading) ef R₁ in
      let R₃ : l'.reading ≡ written (readings rects ss) l.reading =
      R₂ ∙ ap (λ (w : List (List ℕ)). written (concat w) l.reading)
      (sym (map_map (reading_order rects) (λ k. get_or ss k []) (below (length ss))) ∙ ap (map (reading_order rects)) (by_place ss [])) in
      record {
        set_count = C.sets;
        grid_count = H₂.grids;
        members = C.members;
        ends = C.ends;
        reading = R₃;
        numbers = H₂.numbers;
        read = read rects limit C hm he;
        read_order = read_order rects limit C hm he l.reading hr R₃;
      }
