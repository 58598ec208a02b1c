-- All findings at their ranks: the two runs are stored one after the other, and the lists then hold the findings in order.
use mathlib.Core.Path.{◌≡◌, refl, sym, ap, ap₂, subst, ◌∙◌}
use mathlib.Core.List.{List, [], ◌∷◌, ◌++◌, map}
use Prim.Native.Nat.{ℕ, zero, suc, ◌+◌, ◌-◌, ◌≤◌, ◌<◌}
use native.Mathlib.Decide.{dec_lt}
use native.Mathlib.Omega.{arith}
use lib.ListN.{length, get_or, take, drop, length-append, length-map, length-take, get_or-append}
use lib.Seq.{get_or-take, get_or-append-add, take-add}
use Rattle.lists.proofs.Keep.{map_append}
use Rattle.order.specs.Order.{key_at, sorted_indexes}
use Rattle.order.proofs.Computed.{sorted_length}
use Rattle.ranks.specs.Ranks.{Rank, Ranked}
use Rattle.ranks.proofs.Laws.{rank_below, rank_of, rank_once, first_below, second_below}
use Rattle.evidence.specs.declared.finding.Row.{Row}
use Rattle.evidence.specs.declared.finding.Finding.{Finding}
use Rattle.evidence.specs.Finding.{row_of}
use Rattle.finding_lists.specs.Columns.{Columns, AllWritten}
use Rattle.finding_lists.specs.Steps.{Stored, Roomy, RanksGiven}
use Rattle.finding_lists.proofs.Placed.{Inverse}
use Rattle.finding_lists.proofs.Storing.{stored_then, all_written, room_for_fewer}
use Rattle.findings.specs.Keys.{key_of, no_finding, in_order}

module _ {ka kb ra rb : List ℕ} (R : Ranked ka kb ra rb) (la : length ka ≤ length ra) (lb : length kb ≤ length rb) where
  -- the ranks of both runs, one after the other
  abbrev ranks : List ℕ
  ranks = take (length ka) ra ++ take (length kb) rb

  front_long : length (take (length ka) ra) ≡ length ka
  front_long = let e = length-take (length ka) ra in omega arith

  pub ranks_long : length ranks ≡ length ka + length kb
  ranks_long = let e = length-take (length kb) rb in let a = length-append (take (length ka) ra) (take (length kb) rb) in omega (arith, front_long)

  has_rank : (k : ℕ) → k < length ka + length kb → Rank (ka ++ kb) k (get_or ranks k 0)
  has_rank k l = go (dec_lt k (length ka))
    where
      go : Dec (k < length ka) → Rank (ka ++ kb) k (get_or ranks k 0)
      go (yes h) =
          let e : get_or ranks k 0 ≡ get_or ra k 0 = get_or-append (take (length ka) ra) (take (length kb) rb) 0 k (omega (arith, front_long)) ∙ get_or-take (length ka) ra k 0 h in
          subst (Rank (ka ++ kb) k) (sym e) (R.of_first k h)
      go (no h) =
          let j = k - length ka in
          let f : k ≡ length ka + j = omega arith in
          let g : k ≡ length (take (length ka) ra) + j = omega (arith, front_long) in
          let m : j < length kb = omega arith in
          let e : get_or ranks k 0 ≡ get_or rb j 0
          = ap (λ (i : ℕ). get_or ranks i 0) g ∙ get_or-append-add (take (length ka) ra) (take (length kb) rb) j 0 ∙ get_or-take (length kb) rb j 0 m in
          subst (λ (i : ℕ). Rank (ka ++ kb) i (get_or ranks k 0)) (sym f) (subst (Rank (ka ++ kb) (length ka + j)) (sym e) (R.of_second j m))

  all_long_lem : length (ka ++ kb) ≡ length ranks
  all_long_lem = length-append ka kb ∙ sym ranks_long

  inverse : Inverse ranks (sorted_indexes (ka ++ kb))
  inverse =
      record {
        long = sorted_length (key_at (ka ++ kb)) (length (ka ++ kb)) ∙ all_long_lem;
        rank = λ k h. subst (λ (n : ℕ). get_or ranks k 0 < n) all_long_lem (at k h).0;
        holds = λ k h. (at k h).1;
        within = λ j h. subst (λ (n : ℕ). get_or (sorted_indexes (ka ++ kb)) j 0 < n) all_long_lem (rank_below (ka ++ kb) j (below j h));
        back = λ j h.
            let b = rank_below (ka ++ kb) j (below j h) in
            rank_once (ka ++ kb) (at (get_or (sorted_indexes (ka ++ kb)) j 0) (subst (λ (n : ℕ). get_or (sorted_indexes (ka ++ kb)) j 0 < n) all_long_lem b)) (rank_of (ka ++ kb) j (below j h));
      }
    where
      at : (k : ℕ) → k < length ranks → Rank (ka ++ kb) k (get_or ranks k 0)
      at k h = has_rank k (subst (λ (n : ℕ). k < n) ranks_long h)

      below : (j : ℕ) → j < length ranks → j < length (ka ++ kb)
      below j h = subst (λ (n : ℕ). j < n) (sym all_long_lem) h

-- Both runs stored at their ranks stand in order.
module _ (first second : List Finding) where
  row_at_lem : (fs : List Finding) (k : ℕ) → get_or (map row_of fs) k (row_of no_finding) ≡ row_of (get_or fs k no_finding)
  row_at_lem [] k = refl
  row_at_lem (f ∷ fs) zero = refl
  row_at_lem (f ∷ fs) (suc k) = row_at_lem fs k

  same_rows : (fs : List Finding) (order : List ℕ) → map (λ k. get_or (map row_of fs) k (row_of no_finding)) order ≡ map row_of (map (λ k. get_or fs k no_finding) order)
  same_rows fs [] = refl
  same_rows fs (k ∷ ks) = ap₂ (λ (r : Row) (rs : List Row). r ∷ rs) (row_at_lem fs k) (same_rows fs ks)

  pub all_in_order : {ra rb : List ℕ} {l l₁ l' : Columns} → Ranked (map key_of first) (map key_of second) ra rb → length first ≤ length ra → length second ≤ length rb
      → Roomy (length first + length second) l → Stored (map row_of first) (take (length first) ra) l l₁ → Stored (map row_of second) (take (length second) rb) l₁ l'
      → AllWritten (map row_of (in_order (first ++ second))) l l'
  unfolding in_order
  all_in_order {ra} {rb} {l} {l₁} {l'} R la lb room S T =
      subst (λ (rs : List Row). AllWritten rs l l') rows_are
      (all_written (map row_of (first ++ second)) (row_of no_finding) (ranks R fa fb) (sorted_indexes (ka ++ kb)) rows_long (inverse R fa fb)
      (subst (λ (n : ℕ). Roomy n l) (sym (ranks_long R fa fb ∙ ap₂ ◌+◌ a b)) room) stored)
    where
      ka : List ℕ
      ka = map key_of first

      kb : List ℕ
      kb = map key_of second

      a : length ka ≡ length first
      a = length-map first key_of

      b : length kb ≡ length second
      b = length-map second key_of

      fa : length ka ≤ length ra
      fa = rw a la

      fb : length kb ≤ length rb
      fb = rw b lb

      rows_long : length (map row_of (first ++ second)) ≡ length (ranks R fa fb)
      rows_long = length-map (first ++ second) row_of ∙ length-append first second ∙ sym (ranks_long R fa fb ∙ ap₂ ◌+◌ a b)

      front : length (map row_of first) ≡ length (take (length first) ra)
      front = let e = length-take (length first) ra in let m = length-map first row_of in omega arith

      stored : Stored (map row_of (first ++ second)) (ranks R fa fb) l l'
      stored =
          subst (λ (rs : List Row). Stored rs (ranks R fa fb) l l') (sym (map_append row_of first second))
          (subst (λ (ps : List ℕ). Stored (map row_of first ++ map row_of second) ps l l') (ap₂ (λ (m n : ℕ). take m ra ++ take n rb) (sym a) (sym b))
          (stored_then (map row_of first) (map row_of second) (take (length first) ra) (take (length second) rb) front S T))

      rows_are : map (λ k. get_or (map row_of (first ++ second)) k (row_of no_finding)) (sorted_indexes (ka ++ kb)) ≡ map row_of (in_order (first ++ second))
      rows_are = same_rows (first ++ second) (sorted_indexes (ka ++ kb)) ∙ ap (λ (ks : List ℕ). map row_of (map (λ k. get_or (first ++ second) k no_finding) (sorted_indexes ks))) (sym (map_append key_of first second))

-- Parts of one run, one after the other.
pub stored_on : (rows rows' : List Row) (m n : ℕ) (ranks : List ℕ) {l l₁ l₂ : Columns} → length rows ≡ m → m ≤ length ranks → Stored rows (take m ranks) l l₁
    → Stored rows' (take n (drop m ranks)) l₁ l₂ → Stored (rows ++ rows') (take (m + n) ranks) l l₂
stored_on rows rows' m n ranks {l} {l₂} e h S T =
    subst (λ (ps : List ℕ). Stored (rows ++ rows') ps l l₂) (sym (take-add m n ranks))
    (stored_then rows rows' (take m ranks) (take n (drop m ranks)) (let t = length-take m ranks in omega arith) S T)

-- The ranks of a part of a run have room in lists for all findings.
module _ {ka kb ra rb : List ℕ} {l : Columns} (R : Ranked ka kb ra rb) (room : Roomy (length ka + length kb) l) where
  pub first_ranks : (at n : ℕ) → at + n ≤ length ka → length ka ≤ length ra → RanksGiven ra at n l
  first_ranks at n h la =
      record {
        long = omega arith;
        room = λ k q. room_for_fewer (let b : get_or ra (at + k) 0 < length ka + length kb = first_below R (at + k) (omega arith) in omega arith) room;
      }

  pub second_ranks : length kb ≤ length rb → RanksGiven rb 0 (length kb) l
  second_ranks lb =
      record {
        long = omega arith;
        room = λ k q. room_for_fewer (let b : get_or rb (0 + k) 0 < length ka + length kb = second_below R (0 + k) (omega arith) in omega arith) room;
      }
