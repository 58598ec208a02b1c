-- Once each box is joined with the near ones behind it up to the first of its own width, all near boxes are joined: what a box would still
-- reach past that one is near to that one too, since it has the same width and stands nearer.
use mathlib.Core.Path.{◌≡◌, sym, ap, ◌∙◌}
use mathlib.Core.List.{List}
use Prim.Native.Nat.{ℕ, zero, suc, ◌+◌, ◌≤◌, ◌<◌}
use native.Mathlib.Decide.{dec_lt, ℕ_discrete}
use native.Mathlib.Omega.{arith}
use lib.ListN.{get_or}
use borrow.Author.Tests.{leb-true, le-leb}
use Rattle.rects.specs.Rects.{count, width_of, rect_at}
use Rattle.sets.specs.Steps.{root}
use Rattle.sorted.specs.Steps.{InOrder, key_at}
use Rattle.box_widths.specs.Widths.{similar}
use Rattle.box_widths.specs.Steps.{PassedBoxes}
use Rattle.box_sets.specs.Steps.{Near, width_at, NextNear}
use Rattle.box_widths.proofs.SimilarWidths.{similar_comm, similar_itself}

-- ---- the first place behind a, before e, at which a number is the same again

data FirstSame (w : ℕ → ℕ) (a e : ℕ) : Type 0 where
  none : ((c : ℕ) → a < c → c < e → w c ≡ w a → ⊥) → FirstSame w a e
  at : (c : ℕ) → a < c → c < e → w c ≡ w a → ((m : ℕ) → a < m → m < c → w m ≡ w a → ⊥) → FirstSame w a e

first_same : (w : ℕ → ℕ) (a e : ℕ) → FirstSame w a e
first_same w a zero = none (λ c o h s. absurd (omega arith))
first_same w a (suc e) = more (first_same w a e)
  where
    more : FirstSame w a e → FirstSame w a (suc e)
    more (at c o h s f) = at c o (omega arith) s f
    more (none f) =
        elim (dec_lt a e) [
          | no o ↦ none (λ c oc h s. absurd (omega arith))
          | yes o ↦
              elim (ℕ_discrete (w e) (w a)) [
                | yes s ↦ at e o (omega arith) s f
                | no s ↦ none (λ c oc h sc. elim (ℕ_discrete c e) [ yes q ↦ s (ap w (sym q) ∙ sc) | no q ↦ f c oc (omega arith) sc ])
              ]
        ]

-- ---- near places

abbrev NearAt : List ℕ → ℕ → List ℕ → List ℕ → ℕ → ℕ → Type 0
NearAt rects limit order keys a b = Near rects limit (λ i. get_or keys i 0) (get_or order a 0) (get_or order b 0)

narrow : {rects : List ℕ} → PassedBoxes rects → (i : ℕ) → i < count rects → width_of (rect_at rects i) ≤ 8192
narrow P i h = omega (arith, (P.inside i h).right)

module _ {rects : List ℕ} (limit : ℕ) {order keys : List ℕ} (P : PassedBoxes rects) (K : InOrder (count rects) keys order) where
  -- near boxes are near either way round
  near_turned : {i j : ℕ} → i < count rects → j < count rects → Near rects limit (λ i. get_or keys i 0) i j → Near rects limit (λ i. get_or keys i 0) j i
  near_turned {i} {j} li lj t =
      record {
        alike = similar_comm _ _ (omega (arith, narrow P j lj)) (omega (arith, narrow P i li)) ∙ t.alike;
        close = let h = leb-true _ limit t.close in le-leb _ limit (omega arith);
      }

  -- a box between two near ones that has the width of the first is near to both
  near_splits : (a c b : ℕ) → a < c → c < b → b < count rects → width_at rects order c ≡ width_at rects order a
      → NearAt rects limit order keys a b → NearAt rects limit order keys a c × NearAt rects limit order keys c b
  near_splits a c b o m lb e t =
      let h = leb-true _ limit t.close in
      let up : key_at keys order a ≤ key_at keys order c = K.ascends a c o (omega arith) in
      let on : key_at keys order c ≤ key_at keys order b = K.ascends c b m lb in (
        record {
          alike = ap (similar (width_at rects order a)) e ∙ similar_itself (width_at rects order a) (omega (arith, narrow P (get_or order a 0) (K.known a (omega arith))));
          close = le-leb _ limit (omega arith);
        },
        record { alike = ap (λ (x : ℕ). similar x (width_at rects order b)) e ∙ t.alike; close = le-leb _ limit (omega arith) },
      )

  module _ (p : List ℕ) (next : (a b : ℕ) → NextNear rects limit order keys a b → root p (get_or order a 0) ≡ root p (get_or order b 0)) where
    -- two near places are joined, by their distance: the first between that has the width of one is joined with it, and nearer to the other
    near_places_joined : (d a b : ℕ) → b ≤ a + d → a < b → b < count rects → NearAt rects limit order keys a b
        → root p (get_or order a 0) ≡ root p (get_or order b 0)
    near_places_joined zero a b h o lb t = absurd (omega arith)
    near_places_joined (suc d) a b h o lb t = go (first_same (width_at rects order) a b) (near_places_joined d)
      where
        go : FirstSame (width_at rects order) a b
            → ((x y : ℕ) → y ≤ x + d → x < y → y < count rects → NearAt rects limit order keys x y
            → root p (get_or order x 0) ≡ root p (get_or order y 0))
            → root p (get_or order a 0) ≡ root p (get_or order b 0)
        go (none f) nearer = next a b (record { behind = o; inside = lb; near = t; first = f })
        go (at c oc m e f) nearer =
            let s = near_splits a c b oc m lb e t in
            next a c (record { behind = oc; inside = omega arith; near = s.0; first = f }) ∙ nearer c b (omega arith) m lb s.1

    pub near_joined : (i j : ℕ) → i < count rects → j < count rects → Near rects limit (λ i. get_or keys i 0) i j → root p i ≡ root p j
    near_joined i j li lj t =
        let x = K.stands i li in
        let y = K.stands j lj in
        let a = x.0 in
        let b = y.0 in
        let la : a < count rects = x.1 in
        let lb : b < count rects = y.1 in
        elim (dec_lt a b) [
          | yes o ↦ ap (root p) (sym x.2) ∙ near_places_joined b a b (omega arith) o lb (rw (x.2, y.2) t) ∙ ap (root p) y.2
          | no o ↦
              elim (dec_lt b a) [
                | yes f ↦ ap (root p) (sym x.2) ∙ sym (near_places_joined a b a (omega arith) f la (rw (x.2, y.2) (near_turned li lj t))) ∙ ap (root p) y.2
                | no f ↦ ap (root p) (sym x.2 ∙ ap (λ (z : ℕ). get_or order z 0) (same a b o f) ∙ y.2)
              ]
        ]
      where
        same : (a b : ℕ) → (a < b → ⊥) → (b < a → ⊥) → a ≡ b
        same a b o f = omega arith
