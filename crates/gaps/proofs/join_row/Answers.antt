-- `gaps::join_row` meets its contract: each turn sees one pair more.
use mathlib.Core.Path.{◌≡◌, sym, ◌∙◌}
use mathlib.Core.Bool.{Bool}
use mathlib.Core.Logic.{⊎_elim, inl}
use mathlib.Core.List.{List}
use Prim.Native.Nat.{ℕ, ◌+◌, ◌<◌}
use native.Mathlib.Nat.{max_comm, min_comm}
use native.Mathlib.Omega.{arith}
use lib.ListN.{get_or}
use Rattle.sets.specs.Closed.{Below}
use Rattle.sets.specs.Steps.{Joined, Joins, Seen}
use Rattle.sets.proofs.Pairs.{pair_next}
use Rattle.gaps.specs.Gaps.{near, touch, Touch}
use Rattle.gaps.proofs.join_row.Goals as goal

near_comm : (gap a b : ℕ) → near gap a b ≡ near gap b a
near_comm gap a b = rw (max_comm a b, min_comm a b)

turn : (values : List ℕ) (gap : ℕ) {i n : ℕ} {q q' : List ℕ} {j : ℕ} (t : Bool) → Joins n (Below n) (Seen (Touch values gap) i j) q → i < j → j < n
    → t ≡ touch values gap i j → Joined n q i j t q' → Joins n (Below n) (Seen (Touch values gap) i (j + 1)) q'
turn values gap {i} {j = j} t W later l e J =
    pair_next (Touch values gap) t W (omega arith) l later J (λ f. inl (sym e ∙ f))
    (⊎_elim (λ f. e ∙ f) (λ f. e ∙ near_comm gap (get_or values i 0) (get_or values j 0) ∙ f))

pub loop-j-preserved : goal.loop-j-preserved
loop-j-preserved c =
    turn c.args.values.now c.args.gap c.near-touch.result c.loop-j.invariant (omega arith) c.loop-j-test.true c.near-touch.ensures c.join_known.ensures
