-- `sets_of_pieces::list_sets` meets its contract: all pairs are joined, and the sets of equal root are the closed sets.
use mathlib.Core.Path.{◌≡◌, ap, subst, ◌∙◌}
use mathlib.Core.List.{List}
use Prim.Native.Nat.{ℕ, ◌≤◌}
use native.Mathlib.Nat.{le_of_eq}
use lib.ListN.{length, drop}
use Rattle.lists.specs.Lists.{concat, written}
use Rattle.rects.specs.Rects.{count}
use Rattle.sets.specs.Closed.{Below}
use Rattle.sets.specs.Steps.{Joins, Listing, root, classes}
use Rattle.sets.specs.Listing.{ends_from}
use Rattle.sets.proofs.Listings.{joins_closed_sets}
use Rattle.sets.proofs.Sizes.{classes_all, classes_count, classes_total}
use Rattle.sorted.proofs.Arranged.{written_over}
use Rattle.pieces.specs.Pieces.{touch, Touch}
use Rattle.ruling_lists.specs.Rulings.{piece_sets}
use Rattle.ruling_lists.specs.Steps.{SetsListed}
use Rattle.ruling_lists.proofs.sets_of_pieces.list_sets.Goals as goal

-- the sets are listed over the pieces in their order, which is kept past them
found : (pieces : List ℕ) (across gap : ℕ) {q q' os ls le ls' le' : List ℕ} {r : ℕ} → Joins (count pieces) (Below (count pieces)) (Touch pieces across gap) q
    → drop (count pieces) os ≡ drop (count pieces) ls → Listing (count pieces) q os le q' ls' le' r
    → SetsListed (piece_sets pieces across gap) (count pieces) ls le ls' le' r
found pieces across gap {q} {os = os} {ls} {le} J kept L =
    let n = count pieces in
    let same = joins_closed_sets (touch pieces across gap) J in
    let all = classes_total n (root q) J.roots.fixed J.roots.stays in
    record {
      count = L.count ∙ ap length same;
      strung =
          record {
            members = L.members ∙ written_over n (concat (classes n (root q))) ls os all kept ∙ ap (λ ss. written (concat ss) ls) same;
            ends = L.ends ∙ ap (λ ss. written (ends_from 0 ss) le) same;
          };
      within = subst (λ (ss : List (List ℕ)). length (concat ss) ≤ n) same (le_of_eq all);
      few = subst (λ (ss : List (List ℕ)). length ss ≤ n) (classes_all n (root q) ∙ same) (classes_count n (root q) n);
    }

pub returns : goal.returns
returns c =
    found c.args.pieces.now c.args.across c.args.gap c.join_all.ensures.0 c.join_all.ensures.1 c.list.ensures
