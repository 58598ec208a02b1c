-- Why verticals against horizontals are enough: the pairs tried so far are joined, and of two that touch one is vertical and the other horizontal.
use mathlib.Core.Path.{◌≡◌, refl, sym, ap, ◌∙◌}
use mathlib.Core.Bool.{Bool, true, false, cond, not, ◌&&◌, false≢true}
use mathlib.Core.Logic.{◌⊎◌, inl, inr, ⊎_elim}
use mathlib.Core.List.{List}
use Prim.Native.Nat.{ℕ, ◌+◌, ◌≤◌, ◌<◌}
use native.Mathlib.Decide.{ℕ_discrete}
use native.Mathlib.Omega.{arith}
use borrow.Author.Tests.{not-true}
use Rattle.lists.specs.Lists.{below, written}
use Rattle.lists.proofs.Every.{and_first}
use Rattle.sets.specs.Closed.{Below}
use Rattle.sets.specs.Steps.{Joins, Room, Joined}
use Rattle.sets.proofs.Chains.{chain_step}
use Rattle.sets.proofs.Joins.{joins_none, joins_more, joins_same, joins_exchange}
use Rattle.meeting.specs.declared.segment.Segment.{Segment}
use Rattle.meeting.specs.Segments.{opposite, span_holds, touches}
use Rattle.meeting.specs.Meeting.{Touch}
use Rattle.crossings.specs.Steps.{Tried}
use Rattle.meeting.proofs.Rulings.{touches_comm}

-- two that touch are opposite
touch_opposite : (join : ℕ) (a b : Segment) → touches join a b ≡ true → opposite a b ≡ true
unfolding touches
touch_opposite join a b e =
    and_first (opposite a b) (span_holds join a b.centre2) (and_first (opposite a b && span_holds join a b.centre2) (span_holds join b a.centre2) e)

-- what touches a vertical is horizontal
pub lies : (join : ℕ) (b a : Segment) → touches join b a ≡ true → b.horizontal ≡ false → a.horizontal ≡ true
lies join b a e h = sym (ap (λ (t : Bool). cond t (not a.horizontal) a.horizontal) h) ∙ touch_opposite join b a e

-- one of two that touch is vertical
one_stands : (join : ℕ) (a b : Segment) → touches join a b ≡ true → (a.horizontal ≡ false) ⊎ (b.horizontal ≡ false)
one_stands join a b e = go a.horizontal refl (touch_opposite join a b e)
  where
    go : (t : Bool) → a.horizontal ≡ t → cond t (not b.horizontal) b.horizontal ≡ true → (a.horizontal ≡ false) ⊎ (b.horizontal ≡ false)
    go true f o = inr (not-true b.horizontal o)
    go false f o = inl f

module _ (join : ℕ) (s : ℕ → Segment) (n : ℕ) where
  pub none_tried : {p : List ℕ} → Room n p → Joins n (Below n) (Tried join s 0) (written (below n) p)
  none_tried room = joins_none room (Below n) (λ i l. l) (Tried join s 0) (λ a b da db t. omega (arith, t.before))

  -- a horizontal ruling has no row
  pub row_none : {p : List ℕ} {i : ℕ} → (s i).horizontal ≡ true → Joins n (Below n) (Tried join s i) p → Joins n (Below n) (Tried join s (i + 1)) p
  row_none {i = i} e J =
      joins_same J (λ a b da db t. record { touch = t.touch; stands = t.stands; before = omega (arith, t.before) })
      (λ a b da db t. record { touch = t.touch; stands = t.stands; before = past a t.stands t.before (ℕ_discrete a i) })
    where
      past : (a : ℕ) → (s a).horizontal ≡ false → a < i + 1 → Dec (a ≡ i) → a < i
      past a h l (yes f) = absurd (false≢true (sym h ∙ ap (λ (k : ℕ). (s k).horizontal) f ∙ e))
      past a h l (no f) = omega arith

  -- all rows are the whole rule
  pub all_tried : {p : List ℕ} {i : ℕ} → Joins n (Below n) (Tried join s i) p → n ≤ i → Joins n (Below n) (Touch join s) p
  all_tried {i = i} J h =
      joins_exchange J (λ a b da db t. chain_step da db (inl t.touch))
      (λ a b da db r.
      ⊎_elim (λ (l : (s a).horizontal ≡ false). chain_step da db (inl (record { touch = r; stands = l; before = omega arith })))
      (λ (l : (s b).horizontal ≡ false). chain_step da db (inr (record { touch = touches_comm join (s b) (s a) ∙ r; stands = l; before = omega arith })))
      (one_stands join (s a) (s b) r))

  -- the horizontals stand at places: `at` gives the one at each
  module _ (at : ℕ → ℕ) where
    -- b stands at one of the first k places
    pub record Met (k b : ℕ) : Type 0 where
      pub place : ℕ
      pub early : place < k
      pub holds : at place ≡ b

    -- the pairs of the rows before i, and of row i those with the first k places
    pub record InRow (i k a b : ℕ) : Type 0 where
      pub touch : Touch join s a b
      pub stands : (s a).horizontal ≡ false
      pub before : (a < i) ⊎ ((a ≡ i) × Met k b)

    module _ {p : List ℕ} {i : ℕ} where
      -- a row begins at the first place that may touch: no place before it does
      pub row_begin : {k : ℕ} → Joins n (Below n) (Tried join s i) p → ((l : ℕ) → l < k → Touch join s i (at l) → ⊥) → Joins n (Below n) (InRow i k) p
      row_begin {k} J far =
          joins_same J (λ a b da db t. record { touch = t.touch; stands = t.stands; before = inl t.before })
          (λ a b da db t. record { touch = t.touch; stands = t.stands; before = none a b t.touch t.before })
        where
          none : (a b : ℕ) → Touch join s a b → (a < i) ⊎ ((a ≡ i) × Met k b) → a < i
          none a b t (inl l) = l
          none a b t (inr m) = absurd (far m.1.place m.1.early (rw (sym m.0, m.1.holds) t))

      pub row_next : {q : List ℕ} {k : ℕ} (touch : Bool) → Joins n (Below n) (InRow i k) p → i < n → at k < n → (s i).horizontal ≡ false
          → touch ≡ touches join (s i) (s (at k)) → Joined n p i (at k) touch q → Joins n (Below n) (InRow i (k + 1)) q
      row_next {q} {k} touch J li lk h t Q =
          joins_more J (λ a b da db r. record { touch = r.touch; stands = r.stands; before = later b r.before }) li lk touch Q
          (λ a b da db r. split a b r r.before)
          (λ f. inl (record { touch = sym t ∙ f; stands = h; before = inr (refl, record { place = k; early = omega arith; holds = refl }) }))
        where
          later : {a : ℕ} (b : ℕ) → (a < i) ⊎ ((a ≡ i) × Met k b) → (a < i) ⊎ ((a ≡ i) × Met (k + 1) b)
          later b (inl l) = inl l
          later b (inr m) = inr (m.0, record { place = m.1.place; early = omega (arith, m.1.early); holds = m.1.holds })

          split : (a b : ℕ) → InRow i (k + 1) a b → (a < i) ⊎ ((a ≡ i) × Met (k + 1) b) → InRow i k a b ⊎ ((a ≡ i) × (b ≡ at k) × (touch ≡ true))
          split a b r (inl l) = inl (record { touch = r.touch; stands = r.stands; before = inl l })
          split a b r (inr m) =
              elim (ℕ_discrete m.1.place k) [
                | yes e ↦ let f : b ≡ at k = sym m.1.holds ∙ ap at e in inr (m.0, f, t ∙ rw (sym m.0, sym f) r.touch)
                | no e ↦ inl (record { touch = r.touch; stands = r.stands; before = inr (m.0, record { place = m.1.place; early = omega (arith, m.1.early); holds = m.1.holds }) })
              ]

      -- a row ends once all that touch were met
      pub row_end : {k : ℕ} → Joins n (Below n) (InRow i k) p → ((b : ℕ) → b < n → Touch join s i b → Met k b) → Joins n (Below n) (Tried join s (i + 1)) p
      row_end {k} J all =
          joins_same J (λ a b da db r. record { touch = r.touch; stands = r.stands; before = ⊎_elim (λ (l : a < i). omega arith) (λ (m : (a ≡ i) × Met k b). omega (arith, m.0)) r.before })
          (λ a b da db t.
          record {
            touch = t.touch;
            stands = t.stands;
            before = elim (ℕ_discrete a i) [ yes e ↦ inr (e, all b db (rw (sym e) t.touch)) | no e ↦ inl (omega (arith, t.before)) ];
          })
