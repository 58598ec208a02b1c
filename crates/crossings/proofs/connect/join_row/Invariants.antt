-- `connect::join_row` meets its contract: what stands before the first place and from the past one on can't touch, and each turn tries one more of the
-- others, whose centres lie within the span.
use mathlib.Core.Path.{◌≡◌, sym, ap, ◌∙◌}
use mathlib.Core.Bool.{true, false}
use mathlib.Core.List.{List}
use Prim.Native.Nat.{ℕ, ◌+◌, ◌≤◌, ◌<◌}
use native.Mathlib.Omega.{arith}
use lib.ListN.{length, get_or}
use Rattle.sets.specs.Closed.{Below}
use Rattle.sets.specs.Steps.{Joins, Joined}
use Rattle.sorted.specs.Steps.{FirstAtLeast}
use Rattle.meeting.specs.declared.segment.Segment.{Segment}
use Rattle.meeting.specs.Segments.{ruling, span_holds}
use Rattle.crossings.specs.Steps.{first_centre, last_centre, RulingsOrdered, Tried}
use Rattle.crossings.proofs.Crossing.{InRow, row_none, row_begin, row_next, row_end}
use Rattle.crossings.proofs.Spans.{touches_held, between, far_before, all_met}
use Rattle.crossings.proofs.connect.join_row.Given as goal

module _ (join : ℕ) (s : ℕ → Segment) (n : ℕ) (keys order : List ℕ) where
  pub record Row (i : ℕ) (b : Segment) (past first : ℕ) (q : List ℕ) (k : ℕ) : Type 0 where
    pub stands : (s i).horizontal ≡ false
    pub read : b ≡ s i
    pub from : FirstAtLeast n keys order (first_centre join (s i)) first
    pub to : FirstAtLeast n keys order (last_centre join (s i) + 1) past
    pub seen : Joins n (Below n) (InRow join s n (λ l. get_or order l 0) i k) q

  module _ (small : (i : ℕ) → i < n → (s i).centre2 < 16384) (O : RulingsOrdered s n keys order) where
    pub begun : {p : List ℕ} {i x y past first : ℕ} {b : Segment} → b ≡ s i → b.horizontal ≡ false → x ≡ last_centre join b → FirstAtLeast n keys order (x + 1) past
        → y ≡ first_centre join b → FirstAtLeast n keys order y first → Joins n (Below n) (Tried join s i) p → Row i b past first p first
    begun {p} {i} {first = first} e h f P g F J =
        let stands : (s i).horizontal ≡ false = ap (λ (x : Segment). x.horizontal) (sym e) ∙ h in
        let from : FirstAtLeast n keys order (first_centre join (s i)) first = rw (sym (g ∙ ap (first_centre join) e)) F in
        record {
          stands = stands;
          read = e;
          from = from;
          to = rw (sym (f ∙ ap (last_centre join) e)) P;
          seen = row_begin join s n (λ l. get_or order l 0) J (far_before join s n small O i stands from);
        }

    -- the horizontal at a place of the row
    pub crossing : {q : List ℕ} {i past first k : ℕ} {b : Segment} → Row i b past first q k → first ≤ k → k < past
        → (k < n) × (get_or order k 0 < n) × ((s (get_or order k 0)).horizontal ≡ true) × (span_holds join (s i) (s (get_or order k 0)).centre2 ≡ true)
    crossing {i = i} {k = k} W on h =
        let inside : k < n = omega (arith, W.to.up_to) in
        let w = between join s n small O i W.from W.to k on h in
        (inside, O.ordered.known k inside, w.0, w.1)

    pub turn : {q q' : List ℕ} {i past first k : ℕ} {b : Segment} → Row i b past first q k → i < n → first ≤ k → k < past
        → Joined n q i (get_or order k 0) (span_holds join (s (get_or order k 0)) b.centre2) q' → Row i b past first q' (k + 1)
    turn {i = i} {k = k} W li on h J =
        let m = crossing W on h in
        record {
          stands = W.stands;
          read = W.read;
          from = W.from;
          to = W.to;
          seen =
              row_next join s n (λ l. get_or order l 0) _ W.seen li m.1 W.stands
              (ap (λ (x : Segment). span_holds join (s (get_or order k 0)) x.centre2) W.read ∙ touches_held join (s i) (s (get_or order k 0)) W.stands m.2 m.3) J;
        }

    pub done : {q : List ℕ} {i past first k : ℕ} {b : Segment} → Row i b past first q k → past ≤ k → Joins n (Below n) (Tried join s (i + 1)) q
    done {i = i} W h = row_end join s n (λ l. get_or order l 0) W.seen (all_met join s n small O i W.stands W.to h)

  pub lying : {p : List ℕ} {i : ℕ} {b : Segment} → b ≡ s i → b.horizontal ≡ true → Joins n (Below n) (Tried join s i) p → Joins n (Below n) (Tried join s (i + 1)) p
  lying e h J = row_none join s n (ap (λ (x : Segment). x.horizontal) (sym e) ∙ h) J

abbrev pub invariant-loop-k : goal.invariant-loop-k
invariant-loop-k l = Row l.join (ruling l.rulings) (length l.rulings.chosen) l.keys l.order l.i l.b l.past l.first l.parents l.k
