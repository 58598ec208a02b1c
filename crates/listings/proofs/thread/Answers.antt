-- `listings::thread` meets its contract: once the indexes from i on are in, each of them points at the next with its root, and each smaller root at
-- the first of its set from i on.
use mathlib.Core.Path.{◌≡◌, refl, sym, ◌∙◌}
use mathlib.Core.Logic.{⊎_elim}
use mathlib.Core.List.{List}
use Prim.Native.Nat.{ℕ, suc, ◌-◌, ◌≤◌, ◌<◌}
use native.Mathlib.Nat.{le_refl, eq-or-lt_of_le, lt-suc_self, le_step}
use native.Mathlib.Decide.{ℕ_discrete}
use native.Mathlib.Omega.{arith}
use lib.ListN.{length, set, length-set}
use lib.Seq.{get_or-set_same, get_or-set_other}
use Rattle.sets.specs.Steps.{found, none}
use Rattle.sets.specs.Steps.{entry, Flat, First, Unthreaded}
use Rattle.listings.proofs.thread.Invariants.{Threading}
use Rattle.listings.proofs.thread.Goals as goal

start : {n : ℕ} {p next : List ℕ} → Unthreaded n next → Threading n p next n
start U =
    record {
      below = λ r l e. rw (U.clear r l) (none (λ m h g f. absurd (omega arith)));
      above = λ j h l. absurd (omega arith);
    }

-- an index with another root is passed over
skip : {n : ℕ} {p : List ℕ} {r i k : ℕ} → (entry p i ≡ r → ⊥) → First n p r (suc i) k → First n p r i k
skip {n} {p} {r} {i} h (found {k} l m e clear) = found {k = k} (omega arith) m e (λ j a b f. ⊎_elim (λ (g : i ≡ j). h (rw g f)) (λ c. clear j c b f) (eq-or-lt_of_le a))
skip {n} {p} {r} {i} h (none clear) = none (λ j a b f. ⊎_elim (λ (g : i ≡ j). h (rw g f)) (λ c. clear j c b f) (eq-or-lt_of_le a))

module _ {n : ℕ} {p next : List ℕ} {i : ℕ} (F : Flat n p) (room : n ≤ length next) (inside : i < n) (T : Threading n p next (suc i)) where
  at_root : entry p i ≡ i → Threading n p next i
  at_root e =
      record {
        below = λ r l f. skip (λ g. omega arith) (T.below r (le_step l) f);
        above = λ j h l. ⊎_elim (λ (g : i ≡ j). rw (sym g, e) (T.below i (lt-suc_self i) e)) (λ g. T.above j g l) (eq-or-lt_of_le h);
      }

  module _ (other : entry p i ≡ i → ⊥) where
    low : entry p i < i
    low = let l = F.low i inside in omega arith

    next' : List ℕ
    next' = set (set next i (entry next (entry p i))) (entry p i) i

    at_i : entry next' i ≡ entry next (entry p i)
    unfolding next'
    at_i =
        let l = low in
        get_or-set_other (set next i (entry next (entry p i))) (entry p i) i i 0 (λ e. other (sym e))
        ∙ get_or-set_same next i (entry next (entry p i)) 0 (omega (arith, room, inside))

    at_r : entry next' (entry p i) ≡ i
    unfolding next'
    at_r = get_or-set_same (set next i (entry next (entry p i))) (entry p i) i 0 (simp length-set (omega (arith, room, inside, low)))

    at_other : (j : ℕ) → (j ≡ i → ⊥) → (j ≡ entry p i → ⊥) → entry next' j ≡ entry next j
    unfolding next'
    at_other j a b = get_or-set_other (set next i (entry next (entry p i))) (entry p i) j i 0 b ∙ get_or-set_other next i j (entry next (entry p i)) 0 a

    threaded : Threading n p next' i
    unfolding next'
    threaded =
        record {
          below = λ r l f. root_at r l f (ℕ_discrete r (entry p i));
          above = λ j h l. ⊎_elim (λ (g : i ≡ j). rw (sym g, at_i) behind) (λ g. rw (at_other j (λ e. omega arith) (λ e. omega (arith, low))) (T.above j g l)) (eq-or-lt_of_le h);
        }
      where
        behind : First n p (entry p i) (suc i) (entry next (entry p i))
        behind = T.below (entry p i) (omega (arith, low)) (F.fixed i inside)

        root_at : (r : ℕ) → r < i → entry p r ≡ r → Dec (r ≡ entry p i) → First n p r i (entry next' r)
        root_at r l f (yes e) = rw (e, at_r) (found (le_refl i) inside refl (λ m a b g. absurd (omega arith)))
        root_at r l f (no e) = rw (at_other r (λ g. omega arith) e) (skip (λ g. e (sym g)) (T.below r (le_step l) f))

-- the index of a turn is one below where the invariant stands
down_one : {n : ℕ} {p next : List ℕ} {k : ℕ} → 0 < k → Threading n p next k → Threading n p next (suc (k - 1))
down_one {k} l T = let e : suc (k - 1) ≡ k = omega arith in rw e T

pub loop-i-init : goal.loop-i-init
loop-i-init c = start c.requires.1

pub loop-i-preserved-then-root-i : goal.loop-i-preserved-then-root-i
unfolding next'
loop-i-preserved-then-root-i c = threaded c.requires.0 (omega arith) (omega arith) (down_one c.loop-i-test.true c.loop-i.invariant) c.if-root-i.true

pub loop-i-preserved : goal.loop-i-preserved
loop-i-preserved c = at_root c.requires.0 (omega arith) (omega arith) (down_one c.loop-i-test.true c.loop-i.invariant) c.if-root-i.false
