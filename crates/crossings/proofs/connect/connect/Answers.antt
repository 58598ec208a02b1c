-- `connect::connect` meets its contract: the roots of all joined pairs are the closed sets. The order of the rulings, which stood in the member list, is
-- written over, since every index is a member.
use Rattle.std.proofs.Common.{rules}
use mathlib.Core.Path.{◌≡◌, ap, ◌∙◌}
use mathlib.Core.List.{List}
use Prim.Native.Nat.{ℕ}
use native.Mathlib.Omega.{arith}
use lib.ListN.{length, drop}
use Rattle.lists.specs.Lists.{concat, written}
use Rattle.sets.specs.Closed.{Below}
use Rattle.sets.specs.Steps.{Joins, Listing, classes, root}
use Rattle.sets.specs.Listing.{ends_from}
use Rattle.sets.proofs.Listings.{joins_closed_sets}
use Rattle.sets.proofs.Sizes.{classes_total, classes_room}
use Rattle.meeting.specs.declared.segment.Segment.{Segment}
use Rattle.meeting.specs.Segments.{ruling}
use Rattle.meeting.specs.Meeting.{touch, Touch}
use Rattle.crossings.specs.Steps.{RulingsKeyed, Connected}
use Rattle.sorted.proofs.Arranged.{written_over}
use Rattle.crossings.proofs.connect.connect.Goals.{After-arrange_by}
use Rattle.crossings.proofs.connect.connect.Goals as goal

listed : (join : ℕ) (s : ℕ → Segment) {n : ℕ} {q m e q' m' e' : List ℕ} {c : ℕ} (m₀ : List ℕ) → Joins n (Below n) (Touch join s) q → drop n m ≡ drop n m₀
    → Listing n q m e q' m' e' c → Connected join s n m₀ e m' e' c
listed join s {n} {q} {m} {e} m₀ J kept L =
    let same = joins_closed_sets (touch join s) J in
    let all : length (concat (classes n (root q))) ≡ n = classes_total n (root q) J.roots.fixed (λ i l. omega (arith, J.roots.low i l)) in
    record {
      count = L.count ∙ ap length same;
      members = L.members ∙ written_over n (concat (classes n (root q))) m₀ m all kept ∙ ap (λ (ss : List (List ℕ)). written (concat ss) m₀) same;
      ends = L.ends ∙ ap (λ (ss : List (List ℕ)). written (ends_from 0 ss) e) same;
      total = rw same at (classes_room n (root q) J.roots.fixed);
    }

keyed : (c : After-arrange_by) → RulingsKeyed (ruling c.args.rulings.now) c.len-n.result c.arrange_by.new.keys
keyed c i l = let p = c.arrange_by.ensures.keyed i l in search rules

pub join_all-requires : goal.join_all-requires
join_all-requires c =
    let K = keyed (goal.at.join_all-requires c).After-arrange_by in
    (record { keyed = rw c.len-n.ensures.0 at K; ordered = rw c.len-n.ensures.0 at c.arrange_by.ensures.ordered }, search rules)

pub returns : goal.returns
returns c =
    listed c.args.join (ruling c.args.rulings.now) c.args.members.now c.join_all.ensures (rw c.len-n.ensures.0 at c.arrange_by.ensures.kept) (rw c.len-n.ensures.0 at c.list.ensures)
