-- `listings::gather_all` meets its contract: the classes with a root below i are listed, and the thread of the root i is its class.
use mathlib.Core.Path.{◌≡◌, refl, sym, ap, ap₂, subst, ◌∙◌}
use mathlib.Core.List.{List, [], ◌∷◌, ◌++◌}
use Prim.Native.Nat.{ℕ, ◌+◌, ◌≤◌, ◌<◌}
use native.Mathlib.Nat.{zero-add}
use native.Mathlib.Numerals.{add-one}
use native.Mathlib.Omega.{arith}
use lib.ListN.{length, set, length-append}
use lib.Seq.{sets}
use Rattle.lists.specs.Lists.{concat, written}
use Rattle.lists.proofs.Written.{written_more, written_run}
use Rattle.sets.specs.Listing.{ends_from}
use Rattle.sets.specs.Steps.{class_of, entry, Flat, Threaded, Trail, Fitting, Appended, Gathered}
use Rattle.sets.proofs.Sizes.{classes_to, classes_all, classes_none, classes_one, classes_past, classes_count, classes_fit, concat_one, length_ends, ends_one}
use Rattle.listings.proofs.Trails.{threaded_rises, trail_class}
use Rattle.listings.proofs.gather_all.Invariants.{Partial}
use Rattle.listings.proofs.gather_all.Goals.{In-loop-root}
use Rattle.listings.proofs.gather_all.Goals.{then-parents-root, else-parents-root}
use Rattle.listings.proofs.gather_all.Goals as goal

-- the listing of the classes with a root below i
abbrev Gathering : (n : ℕ) (p m₀ e₀ m e : List ℕ) (at count i : ℕ) → Type 0
Gathering n p m₀ e₀ m e at count i = Partial (classes_to n (entry p) i) m₀ e₀ m e at count

start : (n : ℕ) (p m e : List ℕ) → Gathering n p m e m e 0 0 0
start n p m e =
    subst (λ (ss : List (List ℕ)). Partial ss m e m e 0 0) (sym (classes_none n (entry p)))
    (record { place = refl; number = refl; members = refl; ends = refl })

-- one set more
partial_one : {ss : List (List ℕ)} {m₀ e₀ m e m' : List ℕ} {at count end : ℕ} (s : List ℕ) → Partial ss m₀ e₀ m e at count → Appended m at s m' end
    → length (concat ss) + length s ≤ length m₀ → length ss < length e₀ → Partial (ss ++ (s ∷ [])) m₀ e₀ m' (set e count end) end (count + 1)
partial_one {ss} {m₀} {e₀} {m} {e} {m'} {at} {count} {end} s P A room more =
    let len : length (concat (ss ++ (s ∷ []))) ≡ length (concat ss) + length s = ap length (concat_one ss s) ∙ length-append (concat ss) s in
    let past : end ≡ length (concat ss) + length s = A.end ∙ ap (λ (k : ℕ). k + length s) P.place in
    record {
      place = past ∙ sym len;
      number = ap (λ (k : ℕ). k + 1) P.number ∙ sym (length-append ss (s ∷ []));
      members =
          A.content ∙ ap₂ (λ (l : List ℕ) (k : ℕ). sets l k s) P.members P.place ∙ written_run s (concat ss) m₀ room
          ∙ ap (λ (w : List ℕ). written w m₀) (sym (concat_one ss s));
      ends =
          written_more (ends_from 0 ss) e₀ end P.ends (length_ends 0 ss ∙ sym P.number) (rw P.number more)
          (ends_one 0 ss s ∙ ap (λ (k : ℕ). ends_from 0 ss ++ (k ∷ [])) (zero-add (length (concat ss) + length s) ∙ sym past));
    }

-- what is known in a turn of the loop
record Turn (n : ℕ) (p next m₀ e₀ m e : List ℕ) (at count i : ℕ) : Type 0 where
  flat : Flat n p
  threads : Threaded n p next
  members_room : n ≤ length m₀
  ends_room : n ≤ length e₀
  members_kept : length m ≡ length m₀
  ends_kept : length e ≡ length e₀
  so_far : Gathering n p m₀ e₀ m e at count i
  inside : i < n

module _ {n : ℕ} {p next m₀ e₀ m e : List ℕ} {at count i : ℕ} (T : Turn n p next m₀ e₀ m e at count i) where
  fit : entry p i ≡ i → at + length (class_of n (entry p) i) ≤ n
  fit h = rw T.so_far.place (classes_fit n (entry p) T.flat.fixed i h)

  fitting : entry p i ≡ i → Fitting next i m at
  fitting h =
      record {
        met = class_of n (entry p) i;
        trail = trail_class T.flat T.threads i T.inside h;
        fits = omega (arith, fit h, T.members_room, T.members_kept);
      }

  counted : count ≤ i
  counted = rw T.so_far.number (classes_count n (entry p) i)

  listed : {m' : List ℕ} {end : ℕ} → entry p i ≡ i → ((t : List ℕ) → Trail next i t → Appended m at t m' end)
      → Gathering n p m₀ e₀ m' (set e count end) end (count + 1) (i + 1)
  listed {m'} {end} h A =
      subst (λ (ss : List (List ℕ)). Partial ss m₀ e₀ m' (set e count end) end (count + 1))
      (sym (ap (classes_to n (entry p)) (add-one i) ∙ classes_one n (entry p) i h))
      (partial_one (class_of n (entry p) i) T.so_far (A (class_of n (entry p) i) (trail_class T.flat T.threads i T.inside h))
      (omega (arith, classes_fit n (entry p) T.flat.fixed i h)) (omega (arith, classes_count n (entry p) i)))

  -- the end of the set is at most n
  end_low : {m' : List ℕ} {end : ℕ} → entry p i ≡ i → ((t : List ℕ) → Trail next i t → Appended m at t m' end) → end ≤ n
  end_low h A = rw (A (class_of n (entry p) i) (trail_class T.flat T.threads i T.inside h)).end (fit h)

  pass : (entry p i ≡ i → ⊥) → Gathering n p m₀ e₀ m e at count (i + 1)
  pass h =
      subst (λ (ss : List (List ℕ)). Partial ss m₀ e₀ m e at count) (sym (ap (classes_to n (entry p)) (add-one i) ∙ classes_past n (entry p) i h)) T.so_far

done : {n : ℕ} {p m₀ e₀ m e : List ℕ} {at count i : ℕ} → Gathering n p m₀ e₀ m e at count i → i ≡ n → Gathered n p m₀ e₀ m e count
done {n} {p} {m₀} {e₀} {m} {e} {at} {count} {i} G end =
    let P = subst (λ (ss : List (List ℕ)). Partial ss m₀ e₀ m e at count) (ap (classes_to n (entry p)) end ∙ classes_all n (entry p)) G in
    record { count = P.number; members = P.members; ends = P.ends }

-- where the two ways meet, each list and number is what its way left
moved : {ss : List (List ℕ)} {m₀ e₀ m e m' e' : List ℕ} {at count at' count' : ℕ} → Partial ss m₀ e₀ m e at count → m' ≡ m → e' ≡ e → at' ≡ at → count' ≡ count
    → Partial ss m₀ e₀ m' e' at' count'
moved P a b c d = rw (a, b, c, d) P

pub loop-root-init : goal.loop-root-init
loop-root-init c = let a = c.args in start a.n a.parents.now a.members.now a.ends.now

turn_at : (c : In-loop-root)
    → let start = c.args in
    Turn start.n start.parents.now start.next.now start.members.now start.ends.now c.loop-root.members c.loop-root.ends c.loop-root.at c.loop-root.count c.loop-root.root
turn_at c =
    let pre = c.requires in
    record {
      flat = pre.0;
      threads = pre.1;
      members_room = pre.2;
      ends_room = pre.3;
      members_kept = c.loop-root.auto.members;
      ends_kept = c.loop-root.auto.ends;
      so_far = c.loop-root.invariant;
      inside = c.loop-root-test.true;
    }

pub gather-at-requires : goal.gather-at-requires
gather-at-requires c =
    let turn = turn_at (goal.at.gather-at-requires c).In-loop-root in
    (threaded_rises turn.flat turn.threads, turn.inside, fitting turn c.if-parents-root.true)

pub overflow_cast-ends : goal.overflow_cast-ends
overflow_cast-ends c = omega (arith, end_low (turn_at (goal.at.overflow_cast-ends c).In-loop-root) c.if-parents-root.true c.gather-at.ensures)

pub offset_bounds-ends-count : goal.offset_bounds-ends-count
offset_bounds-ends-count c = omega (arith, counted (turn_at (goal.at.offset_bounds-ends-count c).In-loop-root))

pub bounds-ends-count : goal.bounds-ends-count
bounds-ends-count c = omega (arith, counted (turn_at (goal.at.bounds-ends-count c).In-loop-root))

-- that the count fits is not found alone: it is at most the roots before
pub overflow_add-count : goal.overflow_add-count
overflow_add-count c = omega (arith, counted (turn_at (goal.at.overflow_add-count c).In-loop-root))

pub loop-root-preserved : goal.loop-root-preserved
loop-root-preserved c =
    let turn = turn_at (goal.at.loop-root-preserved c).In-loop-root in
    elim c.if-parents-root.branch [
      | then-parents-root w ↦ moved (listed turn w.if-parents-root.true w.gather-at.ensures) w.members-is w.ends-is w.at-is w.count-is
      | else-parents-root w ↦ moved (pass turn w.if-parents-root.false) w.members-is w.ends-is w.at-is w.count-is
    ]

pub returns : goal.returns
returns c = done c.loop-root.invariant (omega arith)
