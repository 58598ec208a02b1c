-- `connect` meets its contract: the roots of all joined pairs are the closed sets, and these are listed over the order that was sorted.
use mathlib.Core.Path.{◌≡◌, ap, ◌∙◌}
use mathlib.Core.List.{List}
use Prim.Native.Nat.{ℕ}
use native.Mathlib.Nat.{le_of_eq}
use lib.ListN.{length, drop}
use Rattle.lists.specs.Lists.{concat, written}
use Rattle.rects.specs.Rects.{count}
use Rattle.sets.specs.Closed.{Below}
use Rattle.sets.specs.Steps.{Joins, Listing, root, classes}
use Rattle.sets.specs.Listing.{ends_from}
use Rattle.sets.proofs.Listings.{joins_closed_sets}
use Rattle.sets.proofs.Sizes.{classes_total}
use Rattle.sorted.proofs.Arranged.{written_over}
use Rattle.box_sets.specs.Boxes.{touch, Touch}
use Rattle.box_sets.specs.Steps.{Connected}
use Rattle.box_sets.proofs.connect.Goals as goal

listed : (rects : List ℕ) (limit : ℕ) {q os m e q' m' e' : List ℕ} {r : ℕ} → Joins (count rects) (Below (count rects)) (Touch rects limit) q
    → drop (count rects) os ≡ drop (count rects) m → Listing (count rects) q os e q' m' e' r → Connected rects limit m e m' e' r
listed rects limit {q} {os} {m} {e} J kept L =
    let n = count rects in
    let same = joins_closed_sets (touch rects limit) J in
    let all = classes_total n (root q) J.roots.fixed J.roots.stays in
    record {
      sets = L.count ∙ ap length same;
      members = L.members ∙ written_over n (concat (classes n (root q))) m os all kept ∙ ap (λ (ss : List (List ℕ)). written (concat ss) m) same;
      ends = L.ends ∙ ap (λ (ss : List (List ℕ)). written (ends_from 0 ss) e) same;
      total = rw same at (le_of_eq all);
    }

pub returns : goal.returns
returns c = listed c.args.rects.now c.args.limit c.join_all.ensures.0 c.join_all.ensures.1 c.list.ensures
