-- Why a search between two keys finds what joins an end: who joins it is of the other direction and near, so that its key lies between the two, and
-- the members stand in the order of their keys.
use mathlib.Core.Path.{◌≡◌, refl, sym, ap, ◌∙◌}
use mathlib.Core.Bool.{Bool, true, false, cond, not, ◌&&◌, false≢true}
use mathlib.Core.List.{List}
use Prim.Native.Nat.{ℕ, ◌+◌, ◌*◌, ◌≤◌, ◌<◌}
use native.Mathlib.Decide.{dec_lt}
use native.Mathlib.Omega.{arith}
use lib.Dec.{leb}
use lib.ListN.{length, get_or}
use borrow.Author.Tests.{leb-true}
use Rattle.lists.specs.Lists.{any}
use Rattle.lists.proofs.Every.{and_first, and_second}
use Rattle.lists.proofs.Keep.{any_true, true_any, in_at, at_in}
use Rattle.rects.specs.Rects.{distance}
use Rattle.sorted.specs.Steps.{offset, key_at, FirstAtLeast}
use Rattle.sorted.proofs.Arranged.{at_or_behind}
use Rattle.meeting.specs.declared.segment.Segment.{Segment}
use Rattle.meeting.specs.Segments.{opposite, span_holds, joins_end}
use Rattle.junctions.specs.Steps.{centre_key, first_key, last_key, MembersOrdered}

-- a test that can't pass fails
fails : (b : Bool) → (b ≡ true → ⊥) → b ≡ false
fails true h = absurd (h refl)
fails false h = refl

other_way : (h t : Bool) → cond h (not t) t ≡ true → t ≡ not h
other_way true true e = absurd (false≢true e)
other_way true false e = refl
other_way false true e = refl
other_way false false e = absurd (false≢true e)

-- a ruling that joins an end has a key between the first and the last
pub joins_between : (join e : ℕ) (a b : Segment) → joins_end join e a b ≡ true → (first_key join e a ≤ centre_key b) × (centre_key b ≤ last_key join e a)
unfolding joins_end
joins_between join e a b t =
    let two = and_first (opposite a b && leb (distance (2 * e) b.centre2) (2 * join + 2)) (span_holds join b a.centre2) t in
    let near = leb-true (distance (2 * e) b.centre2) (2 * join + 2) (and_second (opposite a b) (leb (distance (2 * e) b.centre2) (2 * join + 2)) two) in
    let same : offset b.horizontal ≡ offset (not a.horizontal) =
    ap offset (other_way a.horizontal b.horizontal (and_first (opposite a b) (leb (distance (2 * e) b.centre2) (2 * join + 2)) two)) in
    (omega (arith, near, same), omega (arith, near, same))

module _ (join : ℕ) (s : ℕ → Segment) (set : List ℕ) (a : Segment) (e : ℕ) where
  -- does the member at index j join the end?
  abbrev pub by : ℕ → Bool
  by j = joins_end join e a (s j)

  -- the members at the first k places do not join the end
  pub record Searched (order : List ℕ) (k : ℕ) : Type 0 where
    pub none : (l : ℕ) → l < k → by (get_or set (get_or order l 0) 0) ≡ false

  module _ {keys order : List ℕ} (O : MembersOrdered s set keys order) where
    key : (l : ℕ) → l < length set → key_at keys order l ≡ centre_key (s (get_or set (get_or order l 0) 0))
    key l h = O.keyed (get_or order l 0) (O.ordered.known l h)

    pub search_begin : {k : ℕ} → FirstAtLeast (length set) keys order (first_key join e a) k → Searched order k
    search_begin {k} F =
        record {
          none =
              λ l h. fails _ (λ t. let w = (joins_between join e a (s (get_or set (get_or order l 0) 0)) t).0 in
              let far = F.before l h in absurd (omega (arith, key l (omega (arith, F.up_to)))));
        }

    -- none of all places joins the end
    nobody : ((l : ℕ) → l < length set → by (get_or set (get_or order l 0) 0) ≡ false) → false ≡ any by set
    nobody none =
        sym (fails (any by set) (λ t.
        let w = any_true by set t in
        let m = in_at set w.0 w.1 in
        let p = O.ordered.stands m.0 m.1 in
        false≢true (sym (none p.0 p.1) ∙ ap (λ (i : ℕ). by (get_or set i 0)) p.2 ∙ ap by m.2 ∙ w.2)))

    -- from a key past the last on, nobody joins the end
    pub search_stop : {k : ℕ} → Searched order k → k < length set → last_key join e a < key_at keys order k → false ≡ any by set
    search_stop {k} S h far =
        nobody (λ l m. elim (dec_lt l k) [
          | yes q ↦ S.none l q
          | no q ↦ fails _ (λ t. let w = (joins_between join e a (s (get_or set (get_or order l 0) 0)) t).1 in absurd (omega (arith, key l m, at_or_behind O.ordered k l (omega arith) m)))
        ])

    pub search_end : {k : ℕ} → Searched order k → length set ≤ k → false ≡ any by set
    search_end S h = nobody (λ l m. S.none l (omega arith))

    pub search_found : {k : ℕ} → k < length set → by (get_or set (get_or order k 0) 0) ≡ true → true ≡ any by set
    search_found {k} h t = sym (true_any by set (get_or set (get_or order k 0) 0) (at_in set (get_or order k 0) (O.ordered.known k h)) t)
