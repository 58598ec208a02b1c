-- `pairs::pair_sets` meets its contract: accepted, all pairs are joined and the roots listed; refused, nothing happens.
use mathlib.Core.Path.{◌≡◌, sym, ap₂, ◌∙◌}
use mathlib.Core.Bool.{true, false, ◌&&◌}
use mathlib.Core.List.{List}
use Prim.Native.Nat.{ℕ, ◌/◌, ◌≤◌}
use lib.Dec.{ltb}
use lib.ListN.{length, get_or}
use borrow.Author.Tests.{ltb-true}
use Rattle.gaps.specs.Answers.{room_for}
use Rattle.gaps.proofs.Rooms.{rooms}
use Rattle.lists.proofs.Every.{and_first, and_second, every_at}
use Rattle.sets.specs.Closed.{Below}
use Rattle.sets.specs.Steps.{Joins, Listing, Room}
use Rattle.gaps.proofs.Answers.{accepted, refused}
use Rattle.sets.proofs.Grown.{closed_sets_listed}
use Rattle.sets.proofs.Listings.{joins_closed_sets}
use Rattle.pairs.specs.Pairs.{paired, Paired, indexes_below, IndexesBelow, accepts, PairSets}
use Rattle.pairs.proofs.pair_sets.Goals.{After-indexes_below}
use Rattle.pairs.proofs.pair_sets.Goals as goal

record Ready (n : ℕ) (pairs p m e w : List ℕ) : Type 0 where
  parents : Room n p
  members : n ≤ length m
  ends : n ≤ length e
  work : n ≤ length w
  indexes : IndexesBelow n pairs

ready : {n : ℕ} {pairs p m e w : List ℕ} → accepts n pairs p m e w ≡ true → Ready n pairs p m e w
ready {n} {pairs} {p} {m} {e} {w} t =
    let space = room_for n (length p) (length m) (length e) (length w) in
    let r = rooms n (length p) (length m) (length e) (length w) (and_first space (indexes_below n pairs) t) in
    record {
      parents = record { room = r.first; small = r.small };
      members = r.second;
      ends = r.third;
      work = r.fourth;
      indexes = λ i l. ltb-true (get_or pairs i 0) n (every_at (length pairs) (λ j. ltb (get_or pairs j 0) n) (and_second space (indexes_below n pairs) t) i l);
    }

answered : {n : ℕ} {pairs p m e w q q' m' e' w' : List ℕ} {r : ℕ} → accepts n pairs p m e w ≡ true
    → Joins n (Below n) (Paired pairs (length pairs / 2)) q → Listing n q m e q' m' e' r → PairSets n pairs p m e w q' m' e' w' 0 r
answered {n} {pairs} t J L = let rule = paired pairs (length pairs / 2) in record { answered = accepted t (joins_closed_sets rule J) L; listed = closed_sets_listed n rule }

turned_down : {n : ℕ} {pairs p m e w : List ℕ} → accepts n pairs p m e w ≡ false → PairSets n pairs p m e w p m e w 1 0
turned_down {n} {pairs} t = record { answered = refused t; listed = closed_sets_listed n (paired pairs (length pairs / 2)) }

-- what the guard found
found : (c : After-indexes_below) → c.room.result && c.indexes_below.result ≡ accepts c.args.n c.args.pairs.now c.args.parents.now c.args.members.now c.args.ends.now c.args.work.now
found c = ap₂ ◌&&◌ c.room.ensures c.indexes_below.ensures

prepared : (c : After-indexes_below) → c.room.result && c.indexes_below.result ≡ true → Ready c.args.n c.args.pairs.now c.args.parents.now c.args.members.now c.args.ends.now c.args.work.now
prepared c t = ready (sym (found c) ∙ t)

pub join_pairs-requires : goal.join_pairs-requires
join_pairs-requires c = let r = prepared (goal.at.join_pairs-requires c).After-indexes_below c.if-fits.true in (r.parents, r.indexes)

pub returns-then-fits : goal.returns-then-fits
returns-then-fits c = answered (sym (found (goal.at.returns-then-fits c).After-indexes_below) ∙ c.if-fits.true) c.join_pairs.ensures c.list-count.ensures

pub returns : goal.returns
returns c = turned_down (sym (found (goal.at.returns c).After-indexes_below) ∙ c.if-fits.false)
