-- Why the row of a vertical ruling may begin late and stop early: what touches it has its doubled centre within its widened span, and the rulings stand
-- in the order of these.
use mathlib.Core.Path.{◌≡◌, refl, ap, ◌∙◌}
use mathlib.Core.Bool.{Bool, true, false, cond, ◌&&◌}
use mathlib.Core.List.{List}
use Prim.Native.Nat.{ℕ, ◌+◌, ◌*◌, ◌≤◌, ◌<◌}
use native.Mathlib.Decide.{dec_lt}
use native.Mathlib.Omega.{arith}
use lib.Dec.{eqb, leb}
use lib.ListN.{length, get_or}
use borrow.Author.Tests.{leb-true, le-leb}
use Rattle.lists.proofs.Every.{and_first, and_second, and_both}
use Rattle.rects.specs.declared.Rect.{Rect}
use Rattle.rects.specs.Rects.{rect_at}
use Rattle.rects.specs.Steps.{Inside}
use Rattle.sorted.specs.Steps.{key_at, FirstAtLeast}
use Rattle.meeting.specs.declared.segment.Segment.{Segment}
use Rattle.meeting.specs.Segments.{segment_of, ruling_at, opposite, span_holds, touches}
use Rattle.meeting.specs.Meeting.{Touch}
use Rattle.meeting.specs.Steps.{Given}
use Rattle.crossings.specs.Steps.{cross_key, first_centre, last_centre, RulingsOrdered}
use Rattle.crossings.proofs.Crossing.{lies, Met}

small_centre : (r : Rect) (d : ℕ) → Inside 8192 8192 r → (segment_of r d).centre2 < 16384
unfolding segment_of
small_centre r d I = go (eqb d 0)
  where
    lying : Segment
    lying = record { horizontal = true; start = r.x0; end = r.x1; centre2 = r.y0 + r.y1 }

    upright : Segment
    upright = record { horizontal = false; start = r.y0; end = r.y1; centre2 = r.x0 + r.x1 }

    go : (t : Bool) → (cond t lying upright).centre2 < 16384
    go true = let e : lying.centre2 ≡ r.y0 + r.y1 = refl in omega (arith, e, I.high, I.bottom)
    go false = let e : upright.centre2 ≡ r.x0 + r.x1 = refl in omega (arith, e, I.wide, I.right)

-- doubled centres are below 16,384
pub centre_small : {rects directions chosen : List ℕ} → Given rects directions chosen → (i : ℕ) → i < length chosen
    → (ruling_at rects directions chosen i).centre2 < 16384
centre_small {rects} {directions} {chosen} G i l = small_centre (rect_at rects (get_or chosen i 0)) (get_or directions (get_or chosen i 0) 0) (G.inside i l)

-- a span holds a doubled centre from the first on, and before the first past it
pub span_of : (join : ℕ) (b : Segment) (c : ℕ) → span_holds join b c ≡ true → (first_centre join b ≤ c) × (c < 2 * (b.end + join) + 1)
span_of join b c e =
    let from = leb-true (2 * b.start) (c + 2 * join) (and_first (leb (2 * b.start) (c + 2 * join)) (leb c (2 * (b.end + join))) e) in
    let to = leb-true c (2 * (b.end + join)) (and_second (leb (2 * b.start) (c + 2 * join)) (leb c (2 * (b.end + join))) e) in
    (omega (arith, from), omega (arith, to))

pub of_span : (join : ℕ) (b : Segment) (c : ℕ) → first_centre join b ≤ c → c < 2 * (b.end + join) + 1 → span_holds join b c ≡ true
of_span join b c from to = and_both (le-leb (2 * b.start) (c + 2 * join) (omega arith)) (le-leb c (2 * (b.end + join)) (omega arith))

-- two that touch: the second's centre lies within the first's span
held : (join : ℕ) (b a : Segment) → touches join b a ≡ true → span_holds join b a.centre2 ≡ true
unfolding touches
held join b a t =
    and_second (opposite b a) (span_holds join b a.centre2) (and_first (opposite b a && span_holds join b a.centre2) (span_holds join a b.centre2) t)

-- a vertical and a horizontal whose centre lies within the vertical's span touch if the other span holds the vertical's centre
pub touches_held : (join : ℕ) (b a : Segment) → b.horizontal ≡ false → a.horizontal ≡ true → span_holds join b a.centre2 ≡ true
    → span_holds join a b.centre2 ≡ touches join b a
unfolding touches
touches_held join b a stands lying e = rw (stands, lying, e) refl

-- only a horizontal has a key below 16,384
horizontal_key : (a : Segment) → cross_key a < 16384 → (a.horizontal ≡ true) × (cross_key a ≡ a.centre2)
horizontal_key a h = go a.horizontal refl h
  where
    go : (t : Bool) → a.horizontal ≡ t → cond t a.centre2 16384 < 16384 → (a.horizontal ≡ true) × (cond a.horizontal a.centre2 16384 ≡ a.centre2)
    go true e l = (e, rw e refl)
    go false e l = absurd (omega arith)

key_of_horizontal : (a : Segment) → a.horizontal ≡ true → cross_key a ≡ a.centre2
key_of_horizontal a e = rw e refl

module _ (join : ℕ) (s : ℕ → Segment) (n : ℕ) (small : (i : ℕ) → i < n → (s i).centre2 < 16384) {keys order : List ℕ} (O : RulingsOrdered s n keys order) (i : ℕ) where
  -- the ruling at a place of the order
  abbrev pub at : ℕ → ℕ
  at l = get_or order l 0

  key : (l : ℕ) → l < n → key_at keys order l ≡ cross_key (s (at l))
  key l h = O.keyed (at l) (O.ordered.known l h)

  -- between the first place and the past one stand horizontals whose centre lies within the span
  pub between : {f p : ℕ} → FirstAtLeast n keys order (first_centre join (s i)) f → FirstAtLeast n keys order (last_centre join (s i) + 1) p → (l : ℕ) → f ≤ l → l < p
      → ((s (at l)).horizontal ≡ true) × (span_holds join (s i) (s (at l)).centre2 ≡ true)
  between {f} {p} F P l from to =
      let inside : l < n = omega (arith, P.up_to) in
      let k = key l inside in
      let low = F.behind l from inside in
      let high = P.before l to in
      let h = horizontal_key (s (at l)) (omega arith) in
      (h.0, of_span join (s i) (s (at l)).centre2 (omega (arith, h.1)) (omega (arith, h.1)))

  module _ (stands : (s i).horizontal ≡ false) where
    -- what touches the vertical stands at a place, by its centre
    placed : (b : ℕ) → b < n → Touch join s i b → (l : ℕ) × (l < n) × (at l ≡ b) × (key_at keys order l ≡ (s b).centre2)
    placed b lb t =
        let p = O.ordered.stands b lb in
        (p.0, p.1, p.2, key p.0 p.1 ∙ ap (λ (j : ℕ). cross_key (s j)) p.2 ∙ key_of_horizontal (s b) (lies join (s i) (s b) t stands))

    -- no place before the first touches
    pub far_before : {f : ℕ} → FirstAtLeast n keys order (first_centre join (s i)) f → (l : ℕ) → l < f → Touch join s i (at l) → ⊥
    far_before F l h t =
        let low = (span_of join (s i) (s (at l)).centre2 (held join (s i) (s (at l)) t)).0 in
        let early = F.before l h in
        let inside : l < n = omega (arith, F.up_to) in omega (arith, key l inside, key_of_horizontal (s (at l)) (lies join (s i) (s (at l)) t stands))

    -- what touches stands before the past place
    pub all_met : {p k : ℕ} → FirstAtLeast n keys order (last_centre join (s i) + 1) p → p ≤ k → (b : ℕ) → b < n → Touch join s i b → Met join s n at k b
    all_met {p} {k} P h b lb t =
        let w = placed b lb t in
        let high = (span_of join (s i) (s b).centre2 (held join (s i) (s b) t)).1 in
        elim (dec_lt w.0 p) [
          | yes l ↦ record { place = w.0; early = omega arith; holds = w.2 }
          | no l ↦ absurd (let large = P.behind w.0 (omega arith) w.1 in omega (arith, w.3, small b lb))
        ]
