-- A listing in another order, or of a rule that is the same on the domain, lists the same closed sets.
use mathlib.Core.Path.{◌≡◌, sym, ap, ◌∙◌}
use mathlib.Core.Logic.{inl, ⊎_map}
use mathlib.Core.List.{List, [], map}
use Prim.Native.Nat.{ℕ, ◌<◌}
use lib.ListN.{length, get_or, length-map}
use Rattle.lists.specs.Lists.{In}
use Rattle.lists.proofs.Keep.{in_at, get_d_map}
use Rattle.sets.specs.Closed.{Closed, Listed}
use Rattle.sets.proofs.Chains.{chain_step, chain_map}

-- place k of the second listing holds the set that has the number `from k` in the first, and each number stands at one place
pub listed_reordered : {D : ℕ → Type 0} {R : ℕ → ℕ → Type 0} {ss tt : List (List ℕ)} → Listed D R ss → (from : ℕ → ℕ)
    → ((k : ℕ) → k < length tt → (from k < length ss) × (get_or tt k [] ≡ get_or ss (from k) []))
    → ((k l : ℕ) → k < length tt → l < length tt → from k ≡ from l → k ≡ l)
    → ((m : ℕ) → m < length ss → (k : ℕ) × (k < length tt) × (from k ≡ m)) → Listed D R tt
listed_reordered {D} {R} {ss} {tt} L from stands one all =
    record {
      closed = λ k h. let w = stands k h in rw w.1 (L.closed (from k) w.0);
      once = λ s C.
          let o = L.once s C in
          let w = all o.number o.inside in
          record {
            number = w.0;
            inside = w.1;
            stands = (stands w.0 w.1).1 ∙ ap (λ (m : ℕ). get_or ss m []) w.2 ∙ o.stands;
            only = λ k h e.
                let v = stands k h in
                one k w.0 h w.1 (o.only (from k) v.0 (sym v.1 ∙ e) ∙ sym w.2);
          };
    }

-- the same with the order as a list that holds each number below the count once
pub listed_ordered : {D : ℕ → Type 0} {R : ℕ → ℕ → Type 0} {ss : List (List ℕ)} → Listed D R ss → (order : List ℕ)
    → ((k : ℕ) → k < length order → get_or order k 0 < length ss)
    → ((k l : ℕ) → k < length order → l < length order → get_or order k 0 ≡ get_or order l 0 → k ≡ l)
    → ((m : ℕ) → m < length ss → In order m) → Listed D R (map (λ k. get_or ss k []) order)
listed_ordered {D} {R} {ss} L order low one all =
    listed_reordered L (λ k. get_or order k 0) (λ k h. (low k (long k h), get_d_map (λ m. get_or ss m []) order k [] (long k h)))
    (λ k l h g e. one k l (long k h) (long l g) e)
    (λ m h. let w = in_at order m (all m h) in (w.0, rw (length-map order (λ m. get_or ss m [])) w.1, w.2))
  where
    long : (k : ℕ) → k < length (map (λ m. get_or ss m []) order) → k < length order
    long k h = rw (length-map order (λ m. get_or ss m [])) at h

module _ {D : ℕ → Type 0} {R R' : ℕ → ℕ → Type 0} (to : (i j : ℕ) → D i → D j → R i j → R' i j) (from : (i j : ℕ) → D i → D j → R' i j → R i j) where
  pub closed_exchange : {s : List ℕ} → Closed D R s → Closed D R' s
  closed_exchange {s} C =
      record {
        ascending = C.ascending;
        within = C.within;
        nonempty = C.nonempty;
        joined = λ i j mi mj. chain_map (λ k m. m) (λ a b ma mb r. chain_step ma mb (inl (to a b (C.within a ma) (C.within b mb) r))) (C.joined i j mi mj);
        apart = λ i j m d t.
            C.apart i j m d (⊎_map (from i j (C.within i m) d) (from j i d (C.within i m)) t);
      }

pub listed_exchange : {D : ℕ → Type 0} {R R' : ℕ → ℕ → Type 0} {ss : List (List ℕ)} → ((i j : ℕ) → D i → D j → R i j → R' i j)
    → ((i j : ℕ) → D i → D j → R' i j → R i j) → Listed D R ss → Listed D R' ss
listed_exchange to from L =
    record { closed = λ k h. closed_exchange to from (L.closed k h); once = λ s C. L.once s (closed_exchange from to C) }
