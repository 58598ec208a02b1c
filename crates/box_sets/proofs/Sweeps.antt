-- A sweep as a whole: its keys, what it begins with, that each row goes on from what was joined before it, and that both sweeps are the rule.
use mathlib.Core.Path.{◌≡◌, refl}
use mathlib.Core.Bool.{Bool, true, false, ◌||◌}
use mathlib.Core.Logic.{◌⊎◌, inl, inr, ⊎_elim}
use mathlib.Core.List.{List}
use Prim.Native.Nat.{ℕ, ◌^◌, ◌≤◌, ◌<◌}
use native.Mathlib.Omega.{arith}
use lib.Dec.{leb}
use lib.ListN.{get_or}
use Rattle.lists.proofs.Every.{and_first, and_second}
use Rattle.rects.specs.declared.Rect.{Rect}
use Rattle.rects.specs.Rects.{count, rect_at, width_of, distance}
use Rattle.rects.specs.Steps.{Inside}
use Rattle.sets.specs.Closed.{Below}
use Rattle.sets.specs.Steps.{Joins, root}
use Rattle.sets.proofs.Sweeps.{between_known, between_all}
use Rattle.sorted.specs.Steps.{InOrder}
use Rattle.box_widths.specs.Widths.{similar}
use Rattle.box_sets.specs.declared.sweep.Axis.{Axis}
use Rattle.box_sets.specs.declared.sweep.Axis.TheVariants.{X, Y}
use Rattle.box_sets.specs.Boxes.{centre_x, aligned, touching, Touch}
use Rattle.box_widths.specs.Steps.{PassedBoxes}
use Rattle.box_sets.specs.Steps.{centre_in, Centred, Near, Sweep, JoinedSo, NextNear, SweptTo, JoinedNear}
use Rattle.box_sets.proofs.Nexts.{near_joined}

-- ---- the keys are doubled centres

centre_small : (axis : Axis) {r : Rect} → Inside 8192 8192 r → centre_in axis r < 2 ^ 14
centre_small X I = omega (arith, I.wide, I.right)
centre_small Y I = omega (arith, I.high, I.bottom)

or_second : (x : Bool) → x || true ≡ true
or_second true = refl
or_second false = refl

centre_aligns : (axis : Axis) (limit : ℕ) (a b : Rect) → leb (distance (centre_in axis a) (centre_in axis b)) limit ≡ true → aligned limit a b ≡ true
centre_aligns X limit a b e = rw e
centre_aligns Y limit a b e = rw e (or_second (leb (distance (centre_x a) (centre_x b)) limit))

pub centres_sweep : (rects : List ℕ) (limit : ℕ) (axis : Axis) {order keys : List ℕ} → PassedBoxes rects → Centred rects axis keys → InOrder (count rects) keys order
    → Sweep rects limit order keys
centres_sweep rects limit axis P C K =
    record {
      sorted = K;
      small = λ i h. rw (C i h) (centre_small axis (P.inside i h));
      aligns = λ i j li lj e. centre_aligns axis limit (rect_at rects i) (rect_at rects j) (rw (C i li, C j lj) at e);
    }

-- ---- rows

pub sweep_begun : {rects : List ℕ} {limit : ℕ} {order keys p : List ℕ} → JoinedSo rects limit (λ i j. ⊥) p → SweptTo rects limit order keys p 0 1 p
sweep_begun {rects} {limit} {order} {keys} {p} B = record { before = between_known B (λ i j di dj e. inr e); pairs = each }
  where
    each : (a b : ℕ) → NextNear rects limit order keys a b → (a < 0) ⊎ ((a ≡ 0) × (b < 1)) → root p (get_or order a 0) ≡ root p (get_or order b 0)
    each a b N (inl h) = absurd (omega arith)
    each a b N (inr h) = absurd (let x = h.0 in let y = h.1 in omega (arith, N.behind))

-- a row sees what was joined before it
pub from_here : {rects : List ℕ} {limit : ℕ} {order keys p₀ p : List ℕ} {k l : ℕ} → SweptTo rects limit order keys p₀ k l p → SweptTo rects limit order keys p k l p
from_here B = record { before = between_known B.before (λ i j di dj e. inr e); pairs = B.pairs }

-- and leaves it joined
pub from_before : {rects : List ℕ} {limit : ℕ} {order keys p₀ p q : List ℕ} {k l k' l' : ℕ} → SweptTo rects limit order keys p₀ k l p
    → SweptTo rects limit order keys p k' l' q → SweptTo rects limit order keys p₀ k' l' q
from_before B R = record { before = between_known R.before (λ i j di dj e. inl (B.before.done i j di dj e)); pairs = R.pairs }

-- once all rows are done, all near boxes are joined
pub sweep_done : {rects : List ℕ} {limit : ℕ} (axis : Axis) {order keys p q : List ℕ} {k l : ℕ} → PassedBoxes rects → Centred rects axis keys
    → InOrder (count rects) keys order → SweptTo rects limit order keys p k l q → count rects ≤ k → JoinedNear rects limit axis p q
sweep_done {rects} {limit} axis {order} {keys} {p} {q} P C K B h =
    record { pairs = between_known B.before (λ i j di dj s. ⊎_elim inl (λ t. inr (near_joined limit P K q next i j di dj (by_key i j di dj t))) s) }
  where
    by_key : (i j : ℕ) → Below (count rects) i → Below (count rects) j → Near rects limit (λ i. centre_in axis (rect_at rects i)) i j
        → Near rects limit (λ i. get_or keys i 0) i j
    by_key i j di dj t = record { alike = t.alike; close = rw (C i di, C j dj) t.close }

    next : (a b : ℕ) → NextNear rects limit order keys a b → root q (get_or order a 0) ≡ root q (get_or order b 0)
    next a b N = B.pairs a b N (inl (omega (arith, N.behind, N.inside)))

-- ---- both sweeps

either : (x y : Bool) → x || y ≡ true → (x ≡ true) ⊎ (y ≡ true)
either true y f = inl refl
either false y f = inr f

-- boxes that touch are near by one of the two centres
touching_near : (rects : List ℕ) (limit i j : ℕ) → Touch rects limit i j
    → Near rects limit (λ i. centre_in X (rect_at rects i)) i j ⊎ Near rects limit (λ i. centre_in Y (rect_at rects i)) i j
unfolding touching
touching_near rects limit i j t =
    let s = similar (width_of (rect_at rects i)) (width_of (rect_at rects j)) in
    let a = aligned limit (rect_at rects i) (rect_at rects j) in
    ⊎_elim (λ c. inl (record { alike = and_first s a t; close = c })) (λ c. inr (record { alike = and_first s a t; close = c })) (either _ _ (and_second s a t))

pub both_sweeps : {rects : List ℕ} {limit : ℕ} {p q r : List ℕ} → JoinedNear rects limit X p q → JoinedNear rects limit Y q r
    → Joins (count rects) (Below (count rects)) (Touch rects limit) r
both_sweeps {rects} {limit} A B =
    between_all B.pairs (λ i j di dj t. inr (inl (⊎_elim (λ c. inl (A.pairs.done i j di dj (inr c))) inr (touching_near rects limit i j t))))

-- a sweep may begin where another ended
pub sweep_again : {rects : List ℕ} {limit : ℕ} {axis : Axis} {p q : List ℕ} → JoinedNear rects limit axis p q → JoinedSo rects limit (λ i j. ⊥) q
sweep_again B = between_known B.pairs (λ i j di dj e. absurd e)
