-- Of a listing of the closed sets, those that pass a test are listed in turn, each once.
use mathlib.Core.Path.{◌≡◌, sym, ap, ◌∙◌}
use mathlib.Core.Bool.{Bool, true}
use mathlib.Core.List.{List, [], map}
use Prim.Native.Nat.{ℕ, ◌<◌}
use lib.ListN.{length, get_or, length-map}
use Rattle.lists.specs.Lists.{below, keep}
use Rattle.lists.proofs.Keep.{in_below, below_in, kept_in, in_kept, in_at, at_in, get_d_map}
use Rattle.sets.specs.Closed.{Once, Listed, ListedWhere}
use Rattle.sets.proofs.Ascending.{ascending_below, ascending_keep, one_place}

module _ {D : ℕ → Type 0} {R : ℕ → ℕ → Type 0} {ss : List (List ℕ)} (L : Listed D R ss) (test : List ℕ → Bool) where
  abbrev at : ℕ → List ℕ
  at k = get_or ss k []

  -- the numbers of the sets that pass
  abbrev passing : List ℕ
  passing = keep (λ k. test (at k)) (below (length ss))

  count : length (map at passing) ≡ length passing
  count = length-map passing at

  number_of : (t : ℕ) → t < length passing → (get_or passing t 0 < length ss) × (test (at (get_or passing t 0)) ≡ true)
  number_of t h =
      let m = kept_in (λ k. test (at k)) (below (length ss)) (get_or passing t 0) (at_in passing t h) in
      (below_in (length ss) (get_or passing t 0) m.0, m.1)

  set_of : (t : ℕ) → t < length passing → get_or (map at passing) t [] ≡ at (get_or passing t 0)
  set_of t h = get_d_map at passing t [] h

  found : {s : List ℕ} → test s ≡ true → Once ss s → Once (map at passing) s
  found {s} pass O =
      let stands : at O.number ≡ s = O.stands in
      let place = in_at passing O.number (in_kept (λ k. test (at k)) (below (length ss)) O.number (in_below (length ss) O.number O.inside) (ap test stands ∙ pass)) in
      record {
        number = place.0;
        inside = rw count place.1;
        stands = set_of place.0 place.1 ∙ ap at place.2 ∙ stands;
        only = λ k h e.
            let l : k < length passing = rw count at h in
            one_place (ascending_keep (λ k. test (at k)) (ascending_below (length ss))) k place.0 l place.1
            (O.only (get_or passing k 0) (number_of k l).0 (sym (set_of k l) ∙ e) ∙ sym place.2);
      }

  pub listed_where : ListedWhere D R test (map at passing)
  listed_where =
      record {
        closed = λ k h. let l : k < length passing = rw count at h in rw (set_of k l) (L.closed (get_or passing k 0) (number_of k l).0);
        passes = λ k h. let l : k < length passing = rw count at h in ap test (set_of k l) ∙ (number_of k l).1;
        once = λ s c pass. found pass (L.once s c);
      }
