-- A row of the sweep: a piece against those behind it in the order, as far as it reaches.
use mathlib.Core.Path.{◌≡◌, sym, ◌∙◌}
use mathlib.Core.Bool.{Bool}
use mathlib.Core.Logic.{◌⊎◌, inl, inr, ⊎_elim}
use mathlib.Core.List.{List}
use Prim.Native.Nat.{ℕ, ◌+◌, ◌*◌, ◌^◌, ◌≤◌, ◌<◌}
use native.Mathlib.Nat.{eq-or-lt_of_le}
use native.Mathlib.Omega.{arith}
use lib.ListN.{get_or}
use Rattle.rects.specs.declared.Rect.{Rect}
use Rattle.rects.specs.Rects.{count, rect_at}
use Rattle.sets.specs.Closed.{Touching}
use Rattle.sets.specs.Steps.{Joined}
use Rattle.sets.proofs.Sweeps.{sweep_pair, sweep_row_in}
use Rattle.pieces.specs.Pieces.{horizontal, within, touch, Touch}
use Rattle.pieces.specs.Steps.{AllOrdered, centre_in, end_in, sweep_key, last_key, Sweep, SweptTo}
use Rattle.pieces.proofs.Touching.{touching_comm, window_touching, past_window}

-- what is worked out of the piece r of a row: its direction, its doubled centre, and how far it reaches
pub record Head (gap : ℕ) (r : Rect) (h : Bool) (centre last : ℕ) : Type 0 where
  pub direction : h ≡ horizontal r
  pub centred : centre ≡ centre_in h r
  pub reaches : last ≡ last_key gap h r
  pub ends : end_in h r < 2 ^ 32
  pub narrow : gap < 2 ^ 32

module _ (pieces : List ℕ) (across gap : ℕ) {order keys : List ℕ} {k : ℕ} {h : Bool} {centre last : ℕ} (all : AllOrdered pieces) (S : Sweep pieces order keys)
    (first : k < count pieces) (H : Head gap (rect_at pieces (get_or order k 0)) h centre last) where
  -- the pair of a piece within reach touches if the centres are near
  pair_touching : (l : ℕ) → k < l → l < count pieces → get_or keys (get_or order l 0) 0 ≤ last
      → touch pieces across gap (get_or order k 0) (get_or order l 0) ≡ within (2 * across) centre (centre_in h (rect_at pieces (get_or order l 0)))
  pair_touching l o ll w =
      let a = rect_at pieces (get_or order k 0) in
      let b = rect_at pieces (get_or order l 0) in
      let lj = S.sorted.known l ll in
      let ka = S.keyed (get_or order k 0) (S.sorted.known k first) in
      let kb = S.keyed (get_or order l 0) lj in
      let before : sweep_key a ≤ sweep_key b = omega (arith, S.sorted.ascends k l o ll, ka.value, kb.value) in
      let within-reach : sweep_key b ≤ last_key gap (horizontal a) a = omega (arith, kb.value, rw H.direction at H.reaches) in
      window_touching across gap a b (all (get_or order l 0) lj) H.narrow (rw H.direction at H.ends) kb.small before within-reach
      ∙ rw (H.centred, H.direction)

  pub pair_tried : {l : ℕ} {p q : List ℕ} → SweptTo pieces across gap order k l p → k < l → l < count pieces → get_or keys (get_or order l 0) 0 ≤ last
      → Joined (count pieces) p (get_or order k 0) (get_or order l 0) (within (2 * across) centre (centre_in h (rect_at pieces (get_or order l 0)))) q
      → SweptTo pieces across gap order k (l + 1) q
  pair_tried {l} B o ll w J =
      let t = pair_touching l o ll w in
      sweep_pair B (S.sorted.known k first) (S.sorted.known l ll) _ J (λ f. inl (t ∙ f))
      (⊎_elim (λ f. inl (sym t ∙ f)) (λ f. inl (sym t ∙ touching_comm across gap (rect_at pieces (get_or order k 0)) (rect_at pieces (get_or order l 0)) ∙ f)))

  -- a piece out of reach, and all behind it
  out_of_reach : (b : ℕ) → b < count pieces → last < get_or keys (get_or order b 0) 0 → Touching (Touch pieces across gap) (get_or order k 0) (get_or order b 0) → ⊥
  out_of_reach b lb late t = past_window across gap x y late' (⊎_elim (λ f. f) (λ f. touching_comm across gap x y ∙ f) t)
    where
      x : Rect
      x = rect_at pieces (get_or order k 0)

      y : Rect
      y = rect_at pieces (get_or order b 0)

      late' : last_key gap (horizontal x) x < sweep_key y
      late' = omega (arith, (S.keyed (get_or order b 0) (S.sorted.known b lb)).value, rw H.direction at H.reaches)

  pub row_stops : {l : ℕ} {p : List ℕ} → SweptTo pieces across gap order k l p → l < count pieces → last < get_or keys (get_or order l 0) 0
      → SweptTo pieces across gap order (k + 1) (k + 2) p
  row_stops {l} B ll late = sweep_row_in B S.sorted.stands (λ b o m lb t. out_of_reach b lb (later b m lb (eq-or-lt_of_le m)) t)
    where
      later : (b : ℕ) → l ≤ b → b < count pieces → (l ≡ b) ⊎ (l < b) → last < get_or keys (get_or order b 0) 0
      later b m lb (inl e) = rw e at late
      later b m lb (inr s) = omega (arith, S.sorted.ascends l b s lb)

  pub row_ends : {l : ℕ} {p : List ℕ} → SweptTo pieces across gap order k l p → count pieces ≤ l → SweptTo pieces across gap order (k + 1) (k + 2) p
  row_ends B h = sweep_row_in B S.sorted.stands (λ b o m lb t. absurd (omega arith))
