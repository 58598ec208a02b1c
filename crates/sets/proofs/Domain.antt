-- The closed sets over a domain that a test decides: of the rule inside the domain they are the closed sets whose first index passes, since a chain
-- never leaves the domain.
use mathlib.Core.Path.{◌≡◌}
use mathlib.Core.Bool.{Bool, true, ◌&&◌}
use mathlib.Core.Logic.{inl, ⊎_elim, ⊎_map}
use mathlib.Core.List.{List}
use Prim.Native.Nat.{ℕ, ◌<◌}
use lib.ListN.{get_or}
use Rattle.lists.specs.Lists.{In}
use Rattle.lists.proofs.Keep.{at_in}
use Rattle.lists.proofs.Every.{and_both, and_first, and_second}
use Rattle.sets.specs.Closed.{Below, Touching, Closed, Listed}
use Rattle.sets.specs.Listing.{touch_in, closed_sets_in}
use Rattle.sets.proofs.Chains.{chain_carry, chain_map, chain_step}
use Rattle.sets.proofs.Grown.{Holds, closed_sets_listed}
use Rattle.sets.proofs.Where.{listed_where}

-- The indexes below n that pass the test.
abbrev pub Passing : ℕ → (ℕ → Bool) → ℕ → Type 0
Passing n q i = (i < n) × (q i ≡ true)

module _ (n : ℕ) (q : ℕ → Bool) (touch : ℕ → ℕ → Bool) where
  both_pass : (i j : ℕ) → touch_in q touch i j ≡ true → (q i ≡ true) × (q j ≡ true) × (touch i j ≡ true)
  both_pass i j t = let d = and_first (q i && q j) (touch i j) t in (and_first (q i) (q j) d, and_second (q i) (q j) d, and_second (q i && q j) (touch i j) t)

  touch_inside : (i j : ℕ) → q i ≡ true → q j ≡ true → touch i j ≡ true → touch_in q touch i j ≡ true
  touch_inside i j a b t = and_both (and_both a b) t

  -- what touches inside the domain is in it
  passes : (i j : ℕ) → Touching (Holds (touch_in q touch)) i j → q j ≡ true
  passes i j t = ⊎_elim (λ (r : Holds (touch_in q touch) i j). (both_pass i j r).1) (λ (r : Holds (touch_in q touch) j i). (both_pass j i r).0) t

  plain : (i j : ℕ) → Touching (Holds (touch_in q touch)) i j → Touching (Holds touch) i j
  plain i j t = ⊎_map (λ (r : Holds (touch_in q touch) i j). (both_pass i j r).2) (λ (r : Holds (touch_in q touch) j i). (both_pass j i r).2) t

  module _ {s : List ℕ} where
    -- a closed set whose first index passes is closed over the domain
    to_domain : Closed (Below n) (Holds (touch_in q touch)) s → q (get_or s 0 0) ≡ true → Closed (Passing n q) (Holds touch) s
    to_domain C first =
        record {
          ascending = C.ascending;
          within = λ i m. (C.within i m, member i m);
          nonempty = C.nonempty;
          joined = λ i j mi mj. chain_map (λ k m. m) (λ a b ma mb r. chain_step ma mb (inl (both_pass a b r).2)) (C.joined i j mi mj);
          apart = λ i j m d t. C.apart i j m d.0 (⊎_map (touch_inside i j (member i m) d.1) (touch_inside j i d.1 (member i m)) t);
        }
      where
        member : (i : ℕ) → In s i → q i ≡ true
        member i m = chain_carry (λ k. q k ≡ true) (λ a b p mb t. passes a b t) first (C.joined (get_or s 0 0) i (at_in s 0 C.nonempty) m)

    -- and the other way round
    from_domain : Closed (Passing n q) (Holds touch) s → Closed (Below n) (Holds (touch_in q touch)) s
    from_domain C =
        record {
          ascending = C.ascending;
          within = λ i m. (C.within i m).0;
          nonempty = C.nonempty;
          joined = λ i j mi mj.
              chain_map (λ k m. m) (λ a b ma mb r. chain_step ma mb (inl (touch_inside a b (C.within a ma).1 (C.within b mb).1 r))) (C.joined i j mi mj);
          apart = λ i j m d t. C.apart i j m (d, passes i j t) (plain i j t);
        }

  pub closed_sets_in_listed : Listed (Passing n q) (Holds touch) (closed_sets_in n q touch)
  unfolding closed_sets_in
  closed_sets_in_listed =
      let W = listed_where (closed_sets_listed n (touch_in q touch)) (λ s. q (get_or s 0 0)) in
      record {
        closed = λ k h. to_domain (W.closed k h) (W.passes k h);
        once = λ s C. W.once s (from_domain C) (C.within (get_or s 0 0) (at_in s 0 C.nonempty)).1;
      }
