-- Touching is the same either way round, and what the sweep's keys say of it.
use mathlib.Core.Path.{◌≡◌, refl, sym, ◌∙◌}
use mathlib.Core.Bool.{Bool, true, false, ◌&&◌, and-true, false≢true}
use Prim.Native.Nat.{ℕ, ◌+◌, ◌*◌, ◌^◌, ◌≤◌, ◌<◌, min, max}
use native.Mathlib.Nat.{max_comm, min_comm}
use native.Mathlib.Omega.{arith}
use lib.Dec.{leb}
use borrow.Author.Tests.{leb-true, le-leb}
use Rattle.lists.proofs.Every.{and_first, and_second}
use Rattle.rects.specs.declared.Rect.{Rect}
use Rattle.pieces.specs.Pieces.{horizontal, centre2, start, end, agree, within, touching}
use Rattle.sorted.specs.Steps.{offset}
use Rattle.pieces.specs.Steps.{Ordered, centre_in, start_in, end_in, sweep_key, last_key}

-- touching, with the two directions as variables
abbrev touching_in : Bool → Bool → ℕ → ℕ → Rect → Rect → Bool
touching_in h k reach gap a b =
    agree h k && within reach (centre_in h a) (centre_in k b) && leb (max (start_in h a) (start_in k b)) (min (end_in h a) (end_in k b) + 1 + gap)

touching_is : (across gap : ℕ) (a b : Rect) → touching across gap a b ≡ touching_in (horizontal a) (horizontal b) (2 * across) gap a b
unfolding touching centre2 start end
touching_is across gap a b = refl

agree_comm : (h k : Bool) → agree h k ≡ agree k h
agree_comm true true = refl
agree_comm true false = refl
agree_comm false true = refl
agree_comm false false = refl

pub touching_comm : (across gap : ℕ) (a b : Rect) → touching across gap a b ≡ touching across gap b a
touching_comm across gap a b = touching_is across gap a b ∙ go (horizontal a) (horizontal b) ∙ sym (touching_is across gap b a)
  where
    go : (h k : Bool) → touching_in h k (2 * across) gap a b ≡ touching_in k h (2 * across) gap b a
    go h k =
        rw (agree_comm h k, max_comm (centre_in h a) (centre_in k b), min_comm (centre_in h a) (centre_in k b), max_comm (start_in h a) (start_in k b), min_comm (end_in h a) (end_in k b))

agree_same : (h k : Bool) → agree h k ≡ true → h ≡ k
agree_same true k e = sym e
agree_same false true e = e
agree_same false false e = refl

-- pieces that touch have one direction
pub touching_agrees : (across gap : ℕ) (a b : Rect) → touching across gap a b ≡ true → horizontal a ≡ horizontal b
touching_agrees across gap a b t = go (horizontal a) (horizontal b) (sym (touching_is across gap a b) ∙ t)
  where
    go : (h k : Bool) → touching_in h k (2 * across) gap a b ≡ true → h ≡ k
    go h k e =
        let near = within (2 * across) (centre_in h a) (centre_in k b) in
        agree_same h k (and_first (agree h k) near (and_first (agree h k && near) (leb (max (start_in h a) (start_in k b)) (min (end_in h a) (end_in k b) + 1 + gap)) e))

-- ---- of two pieces in the order of their keys

in_order : (h : Bool) (r : Rect) → Ordered r → start_in h r ≤ end_in h r
in_order true r o = o.wide
in_order false r o = o.high

-- of spans that begin in order, the second one within reach of the first
meet : (w : Bool) (s e t f gap : ℕ) → s ≤ t → t ≤ f → t ≤ e + (gap + 1) → w && leb (max s t) (min e f + 1 + gap) ≡ w
meet w s e t f gap st tf te = rw (le-leb (max s t) (min e f + 1 + gap) (omega arith)) (and-true w)

module _ (across gap : ℕ) (a b : Rect) where
  -- the second is within reach: the centres decide
  pub window_touching : Ordered b → gap < 2 ^ 32 → end_in (horizontal a) a < 2 ^ 32 → start_in (horizontal b) b < 2 ^ 32 → sweep_key a ≤ sweep_key b
      → sweep_key b ≤ last_key gap (horizontal a) a → touching across gap a b ≡ within (2 * across) (centre_in (horizontal a) a) (centre_in (horizontal a) b)
  window_touching o g ea sb first last = touching_is across gap a b ∙ go (horizontal a) (horizontal b) ea sb first last
    where
      go : (h k : Bool) → end_in h a < 2 ^ 32 → start_in k b < 2 ^ 32 → start_in h a + offset h ≤ start_in k b + offset k
          → start_in k b + offset k ≤ last_key gap h a → touching_in h k (2 * across) gap a b ≡ within (2 * across) (centre_in h a) (centre_in h b)
      go true true ea sb first last =
          meet (within (2 * across) (centre_in true a) (centre_in true b)) a.x0 a.x1 b.x0 b.x1 gap (omega arith) o.wide (omega arith)
      go true false ea sb first last = absurd (omega arith)
      go false true ea sb first last = absurd (omega arith)
      go false false ea sb first last =
          meet (within (2 * across) (centre_in false a) (centre_in false b)) a.y0 a.y1 b.y0 b.y1 gap (omega arith) o.high (omega arith)

  -- the second begins too late
  pub past_window : last_key gap (horizontal a) a < sweep_key b → touching across gap a b ≡ true → ⊥
  past_window late t = go (horizontal a) (horizontal b) late (sym (touching_is across gap a b) ∙ t)
    where
      go : (h k : Bool) → last_key gap h a < start_in k b + offset k → touching_in h k (2 * across) gap a b ≡ true → ⊥
      go true true late e =
          let l = leb-true (max a.x0 b.x0) (min a.x1 b.x1 + 1 + gap) (and_second (within (2 * across) (centre_in true a) (centre_in true b)) _ e) in
          omega arith
      go true false late e = false≢true e
      go false true late e = false≢true e
      go false false late e =
          let l = leb-true (max a.y0 b.y0) (min a.y1 b.y1 + 1 + gap) (and_second (within (2 * across) (centre_in false a) (centre_in false b)) _ e) in
          omega arith
