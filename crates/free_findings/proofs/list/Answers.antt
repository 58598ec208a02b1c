-- `free_findings::list` meets its contract: the place of a free ruling is the next.
use mathlib.Core.Path.{◌≡◌, ap, ◌∙◌}
use mathlib.Core.List.{List, [], ◌∷◌, ◌++◌}
use Prim.Native.Nat.{ℕ, ◌+◌, ◌<◌}
use native.Mathlib.Omega.{arith}
use lib.ListN.{length, get_or, take, length-take, length-map}
use Rattle.lists.proofs.Keep.{map_append}
use Rattle.lists.proofs.Written.{written_more}
use Rattle.findings.specs.Made.{free_places}
use Rattle.findings.proofs.Fronts.{next_taken}
use Rattle.free_findings.proofs.list.Goals as goal

next : (printed free : List ℕ) (k : ℕ) → k < length free → free_places printed (take (k + 1) free) ≡ free_places printed (take k free) ++ (get_or printed (get_or free k 0) 0 ∷ [])
next printed free k l =
    ap (free_places printed) (next_taken free k l) ∙ map_append (λ i. get_or printed i 0) (take k free) (get_or free k 0 ∷ [])

pub loop-k-preserved : goal.loop-k-preserved
loop-k-preserved c =
    let a = c.args in
    let l = c.loop-k-test.true in
    let e : length (free_places a.printed.now (take c.loop-k.k a.free.now)) ≡ c.loop-k.k = length-map (take c.loop-k.k a.free.now) (λ i. get_or a.printed.now i 0) ∙ (let e = length-take c.loop-k.k a.free.now in omega arith) in
    written_more (free_places a.printed.now (take c.loop-k.k a.free.now)) a.out.now _ c.loop-k.invariant e (omega (arith, c.requires.1)) (next a.printed.now a.free.now c.loop-k.k l)
