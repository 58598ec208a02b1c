-- From the listing to the answers: the member list gives each closed set back, so what the passes leave is what the definitions say.
use Rattle.std.specs.Prelude.{◌≡◌, ℕ, ◌<◌, ◌≤◌, List, [], length, get_or, take}
use mathlib.Core.Path.{sym, ap, ◌∙◌, subst}
use native.Mathlib.Omega.{arith}
use lib.ListN.{get_or-eq_default}
use lib.Seq.{take_at, get_or-take}
use Rattle.lists.specs.Lists.{below}
use Rattle.lists.proofs.Keep.{length_below, in_below, below_in, kept_in, at_in, by_place}
use Rattle.sets.specs.Listing.{members_of, ReadAs}
use Rattle.sets.proofs.Ascending.{ascending_below, sublist}
use Rattle.sets.proofs.Listings.{members_listed}
use Rattle.sets.proofs.Sizes.{sets_few}
use Rattle.sets.proofs.Grown.{closed_sets_listed}
use Rattle.meeting.specs.declared.segment.Segment.{Segment}
use Rattle.shapes.specs.declared.limits.Limits.{Limits}
use Rattle.meeting.specs.Segments.{ruling_at}
use Rattle.meeting.specs.Meeting.{touch, ruling_sets}
use Rattle.shapes.specs.Shapes.{is_table}
use Rattle.table_lists.specs.Answers.{table_numbers}
use Rattle.meeting.specs.Steps.{IndexesBelow}
use Rattle.crossings.specs.Steps.{Connected}
use Rattle.table_lists.specs.Steps.{SetsIn, Numbers, Chose, Bounded, Measured}
use Rattle.tables.specs.Call.{set_at}
use Rattle.table_questions.specs.Lent.{Lists}
use Rattle.tables.specs.Steps.{Filled}
use Rattle.table_lists.proofs.Passes.{tables_few}

module _ (join : ℕ) (s : ℕ → Segment) (n : ℕ) {m e m' e' : List ℕ} {r : ℕ} (C : Connected join s n m e m' e' r) (room : n ≤ length m) (wide : n ≤ length e) where
  abbrev ss : List (List ℕ)
  ss = ruling_sets join s n

  -- the member list gives each set back
  each : (k : ℕ) → members_of m' e' r k ≡ get_or ss k []
  each k =
      rw (C.members, C.ends, C.count)
      (members_listed ss m e (omega (arith, C.total)) (omega (arith, sets_few n (touch join s))) k)

  pub set_is : members_of m' e' r ≡ (λ k. get_or ss k [])
  set_is = λ i k. each k i

  pub read : ReadAs ss m' e' r
  read = record { each = λ k h. each k; none = λ k h. each k ∙ get_or-eq_default ss [] (rw C.count at h) }

  inside : (k : ℕ) → k < length ss → IndexesBelow n (get_or ss k [])
  inside k h =
      let c = (closed_sets_listed n (touch join s)).closed k h in
      record {
        within = c.within;
        short = rw (length_below n) at (sublist c.ascending (ascending_below n) (λ i m. in_below n i (c.within i m))).0;
      }

  pub sets_in : SetsIn n (members_of m' e' r) r
  sets_in =
      rw (set_is, C.count)
      (record {
        few = sets_few n (touch join s);
        inside = inside;
        some = λ k h. ((closed_sets_listed n (touch join s)).closed k h).nonempty;
        total = rw (by_place ss []) C.total;
      })

-- the numbers of the tables, as they stand in front of their list
module _ {lim : Limits} {s : ℕ → Segment} {f : ℕ → List ℕ} {count : ℕ} {nu ro co fr nu' ro' co' fr' : List ℕ} {t a : ℕ}
    (C : Chose lim s f count nu ro co fr nu' ro' co' fr' t a) where
  pub in_front : take t nu' ≡ table_numbers lim s f count
  in_front = ap (take t) C.numbers ∙ take_at (table_numbers lim s f count) _ t (sym C.tables)

  pub tables_low : t ≤ count
  tables_low = omega (arith, C.tables, tables_few lim s f count)

  pub numbers_in : {n : ℕ} → count ≤ n → n ≤ length nu → length nu' ≡ length nu → Numbers nu' t count
  unfolding table_numbers
  numbers_in few room long =
      record {
        room = omega (arith, tables_low);
        low = λ k h.
            let l : k < length (table_numbers lim s f count) = rw C.tables at h in
            let same : get_or nu' k 0 ≡ get_or (table_numbers lim s f count) k 0 = sym (get_or-take t nu' k 0 h) ∙ ap (λ (w : List ℕ). get_or w k 0) in_front in
            rw same (below_in count _ (kept_in (λ j. is_table lim s (f j)) (below count) _ (at_in (table_numbers lim s f count) k l)).0);
      }

module _ (rects directions chosen : List ℕ) (lim : Limits) (l l' : Lists) where
  abbrev s : ℕ → Segment
  s = ruling_at rects directions chosen

  pub filled : {r t a : ℕ} {f : ℕ → List ℕ} → Connected lim.join s (length chosen) l.members l.ends l'.members l'.ends r
      → f ≡ set_at rects directions chosen lim → ReadAs (ruling_sets lim.join s (length chosen)) l'.members l'.ends r
      → Chose lim s f r l.numbers l.rows l.columns l.free l'.numbers l'.rows l'.columns l'.free t a
      → Bounded rects chosen f (take t l'.numbers) l.bounds l'.bounds × Measured lim.join s f (take t l'.numbers) l.rulings l.shares l'.rulings l'.shares
      → Filled rects directions chosen lim l l' r t a
  filled {r} {t} {a} {f} C ef B H D =
      let n = length (ruling_sets lim.join s (length chosen)) in
      let H₁ : Chose lim s f n l.numbers l.rows l.columns l.free l'.numbers l'.rows l'.columns l'.free t a =
      subst (λ (c : ℕ). Chose lim s f c l.numbers l.rows l.columns l.free l'.numbers l'.rows l'.columns l'.free t a) C.count H in
      let H₂ = subst (λ (g : ℕ → List ℕ). Chose lim s g n l.numbers l.rows l.columns l.free l'.numbers l'.rows l'.columns l'.free t a) ef H₁ in
      let D₁ = subst (λ (w : List ℕ). Bounded rects chosen f w l.bounds l'.bounds × Measured lim.join s f w l.rulings l.shares l'.rulings l'.shares) (in_front H₁) D in
      let D₂ = subst (λ (g : ℕ → List ℕ). Bounded rects chosen g (table_numbers lim s g n) l.bounds l'.bounds × Measured lim.join s g (table_numbers lim s g n) l.rulings l.shares l'.rulings l'.shares) ef D₁ in
      record {
        set_count = C.count;
        table_count = H₂.tables;
        free_count = H₂.free;
        members = C.members;
        ends = C.ends;
        numbers = H₂.numbers;
        bounds = D₂.0.content;
        rows = H₂.rows;
        columns = H₂.columns;
        rulings = D₂.1.rulings;
        shares = D₂.1.shares;
        free = H₂.free_list;
        read = B;
      }
