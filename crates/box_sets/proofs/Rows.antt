-- A row of a sweep: a box against those behind it in the order, as far as its centre reaches, up to the first of its own width. Where all of
-- these are in one set with it, the next box need not be held against them.
use mathlib.Core.Path.{◌≡◌, sym, ap, ap₂, ◌∙◌}
use mathlib.Core.Bool.{Bool, true, ◌&&◌}
use mathlib.Core.Logic.{◌⊎◌, inl, inr}
use mathlib.Core.List.{List}
use Prim.Native.Nat.{ℕ, ◌+◌, ◌≤◌, ◌<◌, max}
use native.Mathlib.Nat.{eq-or-lt_of_le}
use native.Mathlib.Decide.{dec_lt, ℕ_discrete}
use native.Mathlib.Omega.{arith}
use lib.Dec.{leb}
use lib.ListN.{get_or}
use borrow.Author.Tests.{leb-true, le-leb}
use Rattle.rects.specs.Rects.{count, width_of, rect_at, distance}
use Rattle.sets.specs.Steps.{root, Joined}
use Rattle.sets.proofs.Roots.{joined_keeps, joined_one}
use Rattle.sets.proofs.Sweeps.{between_more}
use Rattle.box_widths.specs.Widths.{similar}
use Rattle.box_sets.specs.Boxes.{touching}
use Rattle.box_sets.specs.Steps.{Near, Sweep, width_at, NextNear, SweptTo, OneSet}

-- ---- places in one set

module _ {order : List ℕ} {k e : ℕ} {p : List ℕ} (one : OneSet order k e p) where
  -- the place itself is one of them
  pub one_set_begins : OneSet order k (max e (k + 1)) p
  one_set_begins = record { same = λ b h m. elim (dec_lt b e) [ yes l ↦ one.same b h l | no l ↦ itself b (omega arith) ] }
    where
      itself : (b : ℕ) → b ≡ k → root p (get_or order b 0) ≡ root p (get_or order k 0)
      itself b q = ap (λ (x : ℕ). root p (get_or order x 0)) q

  -- seen from the next place
  pub one_set_next : OneSet order (k + 1) e p
  one_set_next = record { same = λ b h m. one.same b (omega arith) m ∙ sym (one.same (k + 1) (omega arith) (omega arith)) }

  -- pairs with the first of them are joined already
  pub run_known : {rects : List ℕ} {limit : ℕ} {keys p₀ : List ℕ} {l : ℕ} → SweptTo rects limit order keys p₀ k l p → SweptTo rects limit order keys p₀ k (max e l) p
  run_known {rects} {limit} {keys} {p₀} {l} B = record { before = B.before; pairs = each }
    where
      each : (a b : ℕ) → NextNear rects limit order keys a b → (a < k) ⊎ ((a ≡ k) × (b < max e l)) → root p (get_or order a 0) ≡ root p (get_or order b 0)
      each a b N (inl h) = B.pairs a b N (inl h)
      each a b N (inr h) =
          let f = h.0 in
          let m = h.1 in
          elim (dec_lt b e) [
            | yes w ↦ ap (λ (x : ℕ). root p (get_or order x 0)) f ∙ sym (one.same b (omega (arith, N.behind)) w)
            | no w ↦ B.pairs a b N (inr (f, omega arith))
          ]

-- one more, after a join
pub one_set_more : {n : ℕ} {order : List ℕ} {k l : ℕ} {p q : List ℕ} {i j : ℕ} {t : Bool} → ((b : ℕ) → b < n → get_or order b 0 < n) → k < l → l < n
    → OneSet order k l p → Joined n p i j t q → root q (get_or order k 0) ≡ root q (get_or order l 0) → OneSet order k (l + 1) q
one_set_more {order = order} {k} {l} {q = q} inside o ll one J e = record { same = each }
  where
    each : (b : ℕ) → k ≤ b → b < l + 1 → root q (get_or order b 0) ≡ root q (get_or order k 0)
    each b h m =
        elim (ℕ_discrete b l) [
          | yes s ↦ ap (λ (x : ℕ). root q (get_or order x 0)) s ∙ sym e
          | no s ↦ joined_keeps J (get_or order b 0) (get_or order k 0) (inside b (omega arith)) (inside k (omega arith)) (one.same b h (omega arith))
        ]

-- ---- pairs

-- what is worked out of the first box of a row: its width, and how far its centre reaches
pub record Head (rects : List ℕ) (limit : ℕ) (keys : List ℕ) (i width last : ℕ) : Type 0 where
  pub wide : width ≡ width_of (rect_at rects i)
  pub reaches : last ≡ get_or keys i 0 + limit

module _ {rects : List ℕ} {limit : ℕ} {order keys : List ℕ} {k width last : ℕ} (S : Sweep rects limit order keys)
    (first : k < count rects) (H : Head rects limit keys (get_or order k 0) width last) where
  near : (l : ℕ) → k < l → l < count rects → get_or keys (get_or order l 0) 0 ≤ last
      → leb (distance (get_or keys (get_or order k 0) 0) (get_or keys (get_or order l 0) 0)) limit ≡ true
  near l o ll w = le-leb _ limit (omega (arith, S.sorted.ascends k l o ll, H.reaches))

  -- a pair is tried: it is joined if it is near
  pub pair_tried : {p₀ : List ℕ} {l : ℕ} {p q : List ℕ} → SweptTo rects limit order keys p₀ k l p → k < l → l < count rects → get_or keys (get_or order l 0) 0 ≤ last
      → Joined (count rects) p (get_or order k 0) (get_or order l 0) (similar width (width_at rects order l)) q
      → SweptTo rects limit order keys p₀ k (l + 1) q
  unfolding touching
  pair_tried {l = l} {q = q} B o ll w J =
      record {
        before = between_more B.before ka kb _ J (λ f. inl (ap₂ ◌&&◌ (sym s ∙ f) (S.aligns i j ka kb (near l o ll w)))) (λ x y dx dy e. inl (inl e));
        pairs = each;
      }
    where
      i : ℕ
      i = get_or order k 0

      j : ℕ
      j = get_or order l 0

      ka : i < count rects
      ka = S.sorted.known k first

      kb : j < count rects
      kb = S.sorted.known l ll

      s : similar width (width_at rects order l) ≡ similar (width_at rects order k) (width_at rects order l)
      s = ap (λ (x : ℕ). similar x (width_at rects order l)) H.wide

      this : NextNear rects limit order keys k l → root q i ≡ root q j
      this N = joined_one (rw (s ∙ N.near.alike) at J) ka kb

      kept : (a b : ℕ) → NextNear rects limit order keys a b → (a < k) ⊎ ((a ≡ k) × (b < l)) → root q (get_or order a 0) ≡ root q (get_or order b 0)
      kept a b N h = joined_keeps J (get_or order a 0) (get_or order b 0) (S.sorted.known a (omega (arith, N.behind, N.inside))) (S.sorted.known b N.inside) (B.pairs a b N h)

      each : (a b : ℕ) → NextNear rects limit order keys a b → (a < k) ⊎ ((a ≡ k) × (b < l + 1)) → root q (get_or order a 0) ≡ root q (get_or order b 0)
      each a b N (inl h) = kept a b N (inl h)
      each a b N (inr h) =
          let f = h.0 in
          let m = h.1 in
          elim (ℕ_discrete b l) [ yes e ↦ rw (f, e) (this (rw (f, e) at N)) | no e ↦ kept a b N (inr (f, omega arith)) ]

  -- a row is done where none of the places left is next to its first
  row_rests : {p₀ : List ℕ} {l : ℕ} {p : List ℕ} → SweptTo rects limit order keys p₀ k l p → ((b : ℕ) → l ≤ b → NextNear rects limit order keys k b → ⊥)
      → SweptTo rects limit order keys p₀ (k + 1) (k + 2) p
  row_rests {l = l} {p} B rest = record { before = B.before; pairs = each }
    where
      in_row : (a b : ℕ) → NextNear rects limit order keys a b → a ≡ k → root p (get_or order a 0) ≡ root p (get_or order b 0)
      in_row a b N e = elim (dec_lt b l) [ yes h ↦ B.pairs a b N (inr (e, h)) | no h ↦ absurd (rest b (omega arith) (rw e at N)) ]

      each : (a b : ℕ) → NextNear rects limit order keys a b → (a < k + 1) ⊎ ((a ≡ k + 1) × (b < k + 2)) → root p (get_or order a 0) ≡ root p (get_or order b 0)
      each a b N (inl h) = elim (ℕ_discrete a k) [ yes e ↦ in_row a b N e | no e ↦ B.pairs a b N (inl (omega arith)) ]
      each a b N (inr h) = absurd (let x = h.0 in let y = h.1 in omega (arith, N.behind))

  -- a box out of reach, and all behind it
  out_of_reach : (b : ℕ) → last < get_or keys (get_or order b 0) 0 → Near rects limit (λ i. get_or keys i 0) (get_or order k 0) (get_or order b 0) → ⊥
  out_of_reach b late f = let h = leb-true _ limit f.close in omega (arith, H.reaches)

  pub row_stops : {p₀ : List ℕ} {l : ℕ} {p : List ℕ} → SweptTo rects limit order keys p₀ k l p → l < count rects → last < get_or keys (get_or order l 0) 0
      → SweptTo rects limit order keys p₀ (k + 1) (k + 2) p
  row_stops {l = l} B ll late = row_rests B (λ b m N. out_of_reach b (later b m N.inside (eq-or-lt_of_le m)) N.near)
    where
      later : (b : ℕ) → l ≤ b → b < count rects → (l ≡ b) ⊎ (l < b) → last < get_or keys (get_or order b 0) 0
      later b m lb (inl e) = rw e at late
      later b m lb (inr s) = omega (arith, S.sorted.ascends l b s lb)

  -- none is next to the first of a row past one of its width
  pub row_meets_width : {p₀ : List ℕ} {l : ℕ} {p : List ℕ} → SweptTo rects limit order keys p₀ k (l + 1) p → k < l → width_at rects order l ≡ width
      → SweptTo rects limit order keys p₀ (k + 1) (k + 2) p
  row_meets_width {l = l} B o e = row_rests B (λ b m N. N.first l o (omega arith) (e ∙ H.wide))

  pub row_ends : {p₀ : List ℕ} {l : ℕ} {p : List ℕ} → SweptTo rects limit order keys p₀ k l p → count rects ≤ l → SweptTo rects limit order keys p₀ (k + 1) (k + 2) p
  row_ends B h = row_rests B (λ b m N. absurd (omega (arith, N.inside)))
