-- What stands at a place of the sorted order, and the line number of the place after it.
use mathlib.Core.Path.{◌≡◌, sym, ap, ◌∙◌}
use mathlib.Core.Bool.{Bool, true, false, cond}
use mathlib.Core.List.{List}
use Prim.Native.Nat.{ℕ, zero, suc, ◌+◌, ◌≤◌, ◌<◌, suc-le-suc}
use native.Mathlib.Nat.{not-suc-le-zero, le_refl}
use native.Mathlib.Omega.{arith}
use borrow.Author.Tests.{le-ltb}
use lib.ListN.{length, get_or}
use lib.Seq.{get_or-take}
use Rattle.order.specs.Order.{key_at, sorted_indexes}
use Rattle.order.proofs.Computed.{sorted_by_lem}
use Rattle.lines.specs.Lines.{exceeds, line_at, lines_to}
use Rattle.lines.specs.Steps.{Ordered}

module _ (positions o : List ℕ) (O : Ordered positions o) (i : ℕ) (l : i < length positions) where
  same_place : get_or o i 0 ≡ get_or (sorted_indexes positions) i 0
  same_place = sym (get_or-take (length positions) o i 0 l) ∙ ap (λ (s : List ℕ). get_or s i 0) O.sorted

  pub place_within : get_or o i 0 < length positions
  place_within = rw same_place ((sorted_by_lem (key_at positions) (length positions)).within i l)

-- the place before
abbrev pub prior : ℕ → ℕ
prior zero = zero
prior (suc k) = k

-- the first place exceeds nothing; any other begins a new line or goes on with the last
pub line_next : (limit : ℕ) (sorted : List ℕ) (i : ℕ) {line last position line' : ℕ} {begins : Bool} → last ≡ get_or sorted (prior i) 0
    → line ≡ line_at limit sorted (prior i) → position ≡ get_or sorted i 0 → begins ≡ exceeds limit last position → line' ≡ cond begins (suc line) line
    → line' ≡ line_at limit sorted i
unfolding line_at
line_next limit sorted zero {last = last} {position} a b p x f =
    let same : position ≡ last = p ∙ sym a in
    let none : exceeds limit last position ≡ false = le-ltb (last + limit) position (omega arith) in
    cc
line_next limit sorted (suc k) a b p x f = cc

pub line_low : (limit : ℕ) (sorted : List ℕ) (i : ℕ) → line_at limit sorted i ≤ i
unfolding line_at
line_low limit sorted zero = le_refl 0
line_low limit sorted (suc k) = go (exceeds limit (get_or sorted k 0) (get_or sorted (suc k) 0)) (line_low limit sorted k)
  where
    go : (b : Bool) → line_at limit sorted k ≤ k → cond b (suc (line_at limit sorted k)) (line_at limit sorted k) ≤ suc k
    go true h = omega arith
    go false h = omega arith

pub lines_count : (limit : ℕ) (sorted : List ℕ) (i : ℕ) {line : ℕ} → 0 < i → line ≡ line_at limit sorted (prior i) → suc line ≡ lines_to limit sorted i
unfolding lines_to
lines_count limit sorted zero h e = absurd (not-suc-le-zero h)
lines_count limit sorted (suc k) h e = ap suc e

-- there are no more lines than positions
pub lines_few : (limit : ℕ) (sorted : List ℕ) (i : ℕ) → lines_to limit sorted i ≤ i
unfolding lines_to
lines_few limit sorted zero = le_refl 0
lines_few limit sorted (suc k) = suc-le-suc (line_low limit sorted k)
