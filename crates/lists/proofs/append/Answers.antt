-- `lists::append` meets its contract: after k turns the first k entries are stored.
use mathlib.Core.Path.{◌≡◌, refl, sym, ap, ◌∙◌}
use mathlib.Core.List.{List}
use Prim.Native.Nat.{ℕ, ◌+◌, ◌<◌}
use native.Mathlib.Omega.{arith}
use lib.ListN.{length, get_or, set, take}
use lib.Seq.{sets, take_all, length-take-le}
use Rattle.lists.proofs.Stores.{sets_more}
use Rattle.lists.proofs.Runs.{taken_more}
use Rattle.lists.proofs.append.Goals as goal

turn : (xs l : List ℕ) (at k : ℕ) → k < length xs → set (sets l at (take k xs)) (at + k) (get_or xs k 0) ≡ sets l at (take (k + 1) xs)
turn xs l at k h =
    ap (λ (j : ℕ). set (sets l at (take k xs)) (at + j) (get_or xs k 0)) (sym (length-take-le k xs (omega arith)))
    ∙ sets_more (take k xs) l at (get_or xs k 0)
    ∙ ap (sets l at) (sym (taken_more xs k h))

pub loop-k-preserved : goal.loop-k-preserved
loop-k-preserved c =
    let k = c.loop-k.k in
    let xs = c.args.xs.now in
    ap (λ (l : List ℕ). set l (c.args.at + k) (get_or xs k 0)) c.loop-k.invariant ∙ turn xs c.args.list.now c.args.at k (omega arith)

pub returns : goal.returns
returns c = (c.loop-k.invariant ∙ ap (sets c.args.list.now c.args.at) (take_all c.loop-k.k c.args.xs.now (omega arith)), refl)
