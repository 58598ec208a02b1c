-- `sets::find` meets its contract: every turn halves the path and keeps every root, and stands at an index with the root that is looked for.
use mathlib.Core.Path.{◌≡◌, refl, sym, ap, ◌∙◌}
use mathlib.Core.List.{List}
use Prim.Native.Nat.{ℕ, ◌≤◌, ◌<◌}
use native.Mathlib.Omega.{arith}
use lib.ListN.{get_or, set, length-set}
use Rattle.sets.specs.Steps.{root, Found}
use Rattle.sets.proofs.Roots.{root_parent, root_stays, halved, same_trans}
use Rattle.sets.proofs.find.Invariants.{Climbing}
use Rattle.sets.proofs.find.Goals as goal

turn : {n : ℕ} {p : List ℕ} {index : ℕ} {q : List ℕ} {i up : ℕ} → Climbing n p index q i up
    → let v = get_or q up 0 in Climbing n p index (set q i v) v (get_or (set q i v) v 0)
turn {n} {p} {index} {q} {i} {up} C =
    let Q = C.same.parents in
    let e = C.parent in
    let l = C.inside in
    let down : get_or q i 0 ≤ i = Q.down i l in
    let down2 : get_or q up 0 ≤ up = Q.down up (omega arith) in
    let v<n : get_or q up 0 < n = omega arith in
    let v-root : root q (get_or q up 0) ≡ root q i = root_parent Q up (omega arith) ∙ ap (root q) e ∙ root_parent Q i l in
    record {
      same = same_trans C.same (rw e (halved Q i l));
      inside = v<n;
      parent = refl;
      on_way = sym (C.same.roots (get_or q up 0) v<n) ∙ v-root ∙ C.same.roots i l ∙ C.on_way;
      long = length-set q i (get_or q up 0) ∙ C.long;
    }

done : {n : ℕ} {p : List ℕ} {index : ℕ} {q : List ℕ} {i up : ℕ} → Climbing n p index q i up → up ≡ i → Found n p index q i
done {n} {p} {index} {q} {i} C e =
    record {
      found = sym (root_stays C.same.parents i (sym C.parent ∙ e)) ∙ C.same.roots i C.inside ∙ C.on_way;
      same = C.same;
    }

pub loop-up-preserved : goal.loop-up-preserved
loop-up-preserved c = turn c.loop-up.invariant

pub returns : goal.returns
returns c = done c.loop-up.invariant c.loop-up-test.false
