-- The members of one set as C gets them: a part of the member list, by its bounds.
use Rattle.std.specs.Prelude.{ℕ, ◌+◌, ◌≤◌, ◌≡◌, cond, List, eqb, length, take, drop}
use Rattle.sets.specs.Listing.{start_of, members_of}
use Rattle.answers.specs.declared.members_of.MembersOfAnswer.{MembersOfAnswer}

-- The part holds the members of set k and no others, lies in the member list, and starts where the set before it ends; an empty part starts at 0.
pub record PartOf (members ends : List ℕ) (count k : ℕ) (r : MembersOfAnswer) : Type 0 where
  pub size : r.count ≡ length (members_of members ends count k)
  pub inside : r.start + r.count ≤ length members
  pub begins : r.start ≡ cond (eqb r.count 0) 0 (start_of ends k)
  pub part : take r.count (drop r.start members) ≡ members_of members ends count k
