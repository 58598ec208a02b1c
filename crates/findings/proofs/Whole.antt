-- A page's findings: what the two runs need is given of the free rulings and of the folds, and how many there are.
use mathlib.Core.Path.{◌≡◌, sym, ap, ap₂, subst, ◌∙◌}
use mathlib.Core.Bool.{Bool}
use mathlib.Core.List.{List, ◌++◌}
use Prim.Native.Nat.{ℕ, ◌+◌, ◌≤◌, ◌<◌}
use native.Mathlib.Omega.{arith}
use lib.IntN.{ℤ}
use lib.Ieee.{Float}
use lib.ListN.{length, get_or, length-append, length-map}
use Rattle.lists.specs.Lists.{In, keep}
use Rattle.lists.proofs.Keep.{at_in, in_at, kept_in, get_d_map}
use Rattle.lists.proofs.Sizes.{keep_size_le}
use Rattle.rects.specs.Rects.{count}
use Rattle.layout.specs.declared.sides.Sides.{Sides}
use Rattle.params.specs.declared.settings.RulingsParams.{RulingsParams}
use Rattle.finding_lists.specs.Columns.{Columns}
use Rattle.finding_lists.specs.Steps.{Roomy}
use Rattle.findings.specs.Keys.{key_of}
use Rattle.findings.specs.Steps.{first_keys, grid_keys_of, NumbersGiven, AllGiven, RectsGiven, AllRanked, WriteRoom, ArrangeRoom}
use Rattle.findings.specs.Made.{Scan, RulingLists, TableLists, BoxLists, free_places, free_count_of, first_findings, grid_findings}
use Rattle.findings.proofs.Runs.{first_long, second_long}
use Rattle.findings.proofs.Writes.{first_keys_are, grid_keys_are}

-- ---- what is given of some places is given of places among them

module _ {w h : ℕ} {rects numbers : List ℕ} {values : List Float} where
  pub rects_of : {places : List ℕ} → AllGiven w h rects numbers values places → RectsGiven w h rects places
  rects_of A = record { rect = A.given.rect; inside = A.given.inside }

  pub given_among : (places some : List ℕ) → length some ≤ 16384 → ((k : ℕ) → k < length some → In places (get_or some k 0)) → AllGiven w h rects numbers values places
      → AllGiven w h rects numbers values some
  given_among places some few among A =
      record {
        given = record {
          entries = record { few = few; number = λ k l. at k l (λ i. i < length numbers) A.given.entries.number };
          rect = λ k l. let s = in_at places (get_or some k 0) (among k l) in rw (sym s.2) (A.given.rect s.0 s.1);
          inside = λ k l. let s = in_at places (get_or some k 0) (among k l) in rw (sym s.2) (A.given.inside s.0 s.1);
        };
        value = λ k l. at k l (λ i. i < length values) A.value;
      }
    where
      at : (k : ℕ) → k < length some → (P : ℕ → Type 0) → ((j : ℕ) → j < length places → P (get_or places j 0)) → P (get_or some k 0)
      at k l P f = let s = in_at places (get_or some k 0) (among k l) in subst P s.2 (f s.0 s.1)

-- the free rulings are printed ones
pub free_given : {w h : ℕ} {rects numbers : List ℕ} {values : List Float} (printed free : List ℕ) → NumbersGiven printed free → AllGiven w h rects numbers values printed
    → AllGiven w h rects numbers values (free_places printed free)
free_given printed free N A =
    given_among printed (free_places printed free) (let e = long in let f : length free ≤ 16384 = N.few in omega arith)
    (λ k l. let h : k < length free = rw long at l in subst (In printed) (sym (get_d_map (λ i. get_or printed i 0) free k 0 h)) (at_in printed (get_or free k 0) (N.number k h))) A
  where
    long : length (free_places printed free) ≡ length free
    long = length-map free (λ i. get_or printed i 0)

-- the folds are faint ones
pub kept_given : {w h : ℕ} {rects numbers : List ℕ} {values : List Float} (q : ℕ → Bool) (faint : List ℕ) → AllGiven w h rects numbers values faint
    → AllGiven w h rects numbers values (keep q faint)
kept_given q faint A =
    given_among faint (keep q faint) (let e = keep_size_le q faint in let f : length faint ≤ 16384 = A.given.entries.few in omega arith)
    (λ k l. (kept_in q faint (get_or (keep q faint) k 0) (at_in (keep q faint) k l)).0) A

-- ---- the two steps of the core

module _ (sides : Sides) (shear shear_x : List ℤ) (p : RulingsParams) (bounds rects places fs boxes : List ℕ) (set : ℕ → List ℕ) (numbers : List ℕ) where
  -- the ranks and the room that writing needs
  pub write_room : {keys grid_keys order grid_order ranks grid_ranks ra rb : List ℕ} {r : ℕ} {l : Columns} → ArrangeRoom p bounds places fs numbers keys grid_keys order grid_order ranks grid_ranks l
      → AllRanked sides shear shear_x p bounds rects places fs boxes set numbers ra rb r → length ra ≡ length ranks → length rb ≡ length grid_ranks
      → WriteRoom p fs numbers (first_keys sides shear shear_x p bounds rects places fs) (grid_keys_of sides shear shear_x boxes set numbers) ra rb (count bounds) r l
  write_room {ranks} {grid_ranks} {ra} {rb} {r} {l} R K e f =
      let a = first_long sides shear shear_x p bounds rects places fs boxes set numbers in
      let b = second_long sides shear shear_x p bounds rects places fs boxes set numbers in
      let n : r ≡ free_count_of p places = K.rules in
      record {
        ranked = K.ranked;
        first_long = omega arith;
        second_long = b;
        ranks_long = omega (arith, R.ranking.ranks_long);
        grid_ranks_long = omega (arith, R.ranking.grid_ranks_long);
        room = subst (λ (m : ℕ). Roomy m l) (ap₂ ◌+◌ (sym a) (sym b)) R.room;
      }

-- how many findings there are
pub number_is : (s : Scan) (dpi : ℕ) (t : TableLists) (r : RulingLists) (places fs : List ℕ) (b : BoxLists) {n : ℕ} → n ≡ free_count_of s.settings places
    → count t.bounds + n + length fs + length b.grids ≡ length (first_findings s dpi t r places fs ++ grid_findings s b)
number_is s dpi t r places fs b e =
    let x = first_long s.sides s.shear s.shear_x s.settings t.bounds r.rects places fs b.rects b.set b.grids in
    let y = second_long s.sides s.shear s.shear_x s.settings t.bounds r.rects places fs b.rects b.set b.grids in
    let f = sym (length-map (first_findings s dpi t r places fs) key_of) ∙ ap length (first_keys_are s t r b dpi places fs) in
    let g = sym (length-map (grid_findings s b) key_of) ∙ ap length (grid_keys_are s t r b dpi) in
    let h = length-append (first_findings s dpi t r places fs) (grid_findings s b) in
    omega arith
