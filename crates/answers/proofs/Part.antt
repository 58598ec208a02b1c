-- A part of a list by its bounds: a set that has a member starts where the one before it ends.
use mathlib.Core.Path.{◌≡◌, refl, sym, ap, ◌∙◌}
use mathlib.Core.Bool.{Bool, true, false, cond, ◌&&◌}
use mathlib.Core.List.{List, [], ◌∷◌}
use Prim.Native.Nat.{ℕ, zero, suc, ◌+◌, ◌-◌, ◌≤◌, ◌<◌}
use native.Mathlib.Omega.{arith}
use lib.Dec.{leb, ltb}
use lib.ListN.{length, get_or, take, drop, length-take, length-drop}
use borrow.Author.Tests.{ltb-true, leb-true, ne_eqb}
use Rattle.lists.proofs.Every.{and_first, and_second}
use Rattle.sets.specs.Listing.{start_of, members_of}
use Rattle.answers.specs.MembersOf.{PartOf}

-- as many entries as a part has are the part
take_size : (n : ℕ) (xs : List ℕ) → take (length (take n xs)) xs ≡ take n xs
take_size zero xs = refl
take_size (suc n) [] = refl
take_size (suc n) (x ∷ xs) = ap (λ (t : List ℕ). x ∷ t) (take_size n xs)

none : (xs : List ℕ) → length xs ≡ 0 → [] ≡ xs
none [] h = refl
none (x ∷ xs) h = absurd (never (length xs) h)
  where
    never : (n : ℕ) → suc n ≡ 0 → ⊥
    never n e = omega arith

module _ (members ends : List ℕ) (count k : ℕ) where
  abbrev start : ℕ
  start = start_of ends k

  -- the part, where its bounds were tested
  abbrev tested : Bool → List ℕ
  tested t = cond t (take (get_or ends k 0 - start) (drop start members)) []

  -- what the test says, where the part has a member
  pub record Full (found : List ℕ) : Type 0 where
    pub number : k < length ends
    pub inside : start + length found ≤ length members
    pub part : take (length found) (drop start members) ≡ found

  pub full_part : (length (members_of members ends count k) ≡ 0 → ⊥) → Full (members_of members ends count k)
  full_part h =
      let a = ltb k count in
      let b = ltb k (length ends) in
      let c = leb start (get_or ends k 0) in
      let d = leb (get_or ends k 0) (length members) in
      go (a && b && c && d) (λ t. ltb-true k (length ends) (and_second a b (and_first (a && b) c (and_first (a && b && c) d t))))
      (λ t. leb-true start (get_or ends k 0) (and_second (a && b) c (and_first (a && b && c) d t)))
      (λ t. leb-true (get_or ends k 0) (length members) (and_second (a && b && c) d t)) h
    where
      go : (t : Bool) → (t ≡ true → k < length ends) → (t ≡ true → start ≤ get_or ends k 0) → (t ≡ true → get_or ends k 0 ≤ length members) → (length (tested t) ≡ 0 → ⊥) → Full (tested t)
      go true i low high h =
          let l = length-take (get_or ends k 0 - start) (drop start members) in
          let m = length-drop start members in
          record { number = i refl; inside = omega (arith, low refl, high refl); part = take_size (get_or ends k 0 - start) (drop start members) }
      go false i low high h = absurd (h refl)

  pub empty_bounds : length (members_of members ends count k) ≡ 0 → PartOf members ends count k (record { start = 0; count = 0 })
  empty_bounds h = record { size = sym h; inside = omega arith; begins = refl; part = none (members_of members ends count k) h }

  -- the bounds by the part that was found, which has a member, and a start
  pub full_bounds : (found : List ℕ) (s : ℕ) → found ≡ members_of members ends count k → (length found ≡ 0 → ⊥) → s ≡ start_of ends k
      → PartOf members ends count k (record { start = s; count = length found })
  full_bounds found s e h b =
      let f = full_part (λ z. h (ap length e ∙ z)) in
      record {
        size = ap length e;
        inside = rw e (rw b f.inside);
        begins = b ∙ ap (λ (t : Bool). cond t 0 (start_of ends k)) (sym (ne_eqb (length found) 0 h));
        part = rw e (rw b f.part);
      }
