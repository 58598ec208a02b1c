-- `facts::choose` meets its contract: after k turns the first k sets are gone through.
use mathlib.Core.Path.{◌≡◌, sym, ap, ◌∙◌}
use mathlib.Core.Bool.{Bool, true, false}
use mathlib.Core.List.{List}
use Prim.Native.Nat.{ℕ, ◌+◌, ◌-◌, ◌≤◌, ◌<◌}
use native.Mathlib.Omega.{arith}
use lib.ListN.{length, set}
use lib.Seq.{sets}
use Rattle.listings.specs.Listed.{set_of}
use Rattle.meeting.specs.declared.segment.Segment.{Segment}
use Rattle.shapes.specs.declared.limits.Limits.{Limits}
use Rattle.meeting.specs.Segments.{ruling}
use Rattle.shapes.specs.Shapes.{is_table, lines_of}
use Rattle.meeting.specs.Steps.{IndexesBelow}
use Rattle.table_lists.specs.Steps.{SetsIn, Rooms, Chose}
use Rattle.shapes.specs.Steps.{Shaped}
use Rattle.table_lists.proofs.Passes.{set_read, tables_few, free_fits, chose_table, chose_free}
use Rattle.table_lists.proofs.facts.choose.Given as goal

module _ {lim : Limits} {s : ℕ → Segment} {f : ℕ → List ℕ} {count : ℕ} {nu ro co fr : List ℕ} where
  module _ {n : ℕ} (S : SetsIn n f count) {nu' ro' co' fr' : List ℕ} {t a k : ℕ} (P : Chose lim s f k nu ro co fr nu' ro' co' fr' t a) (l : k < count) where
    -- a place in the tables' lists
    pub low : t < n
    low = omega (arith, P.tables, tables_few lim s f k, S.few)

    module _ {xs : List ℕ} (ex : xs ≡ f k) where
      pub known : IndexesBelow n xs
      known = (set_read S l ex).0

      pub fits : a + length xs ≤ n
      fits = omega (arith, free_fits lim s f k S l, P.free, ap length ex)

      module _ {x y z : ℕ} (R : Rooms n x y z (length nu) (length ro) (length co) (length fr)) {b : Bool} {h v : ℕ} (F : Shaped lim s xs b h v) where
        pub table : b ≡ true → Chose lim s f (k + 1) nu ro co fr (set nu' t k) (set ro' t (h - 1)) (set co' t (v - 1)) fr' (t + 1) a
        table e =
            chose_table lim s f k P (ap (is_table lim s) (sym ex) ∙ sym F.table ∙ e) (F.rows ∙ ap (lines_of lim.cluster true s) ex)
            (F.columns ∙ ap (lines_of lim.cluster false s) ex) (omega (arith, low, R.numbers)) (omega (arith, low, R.rows)) (omega (arith, low, R.columns))

        pub refused : {fr'' : List ℕ} {r : ℕ} → b ≡ false → fr'' ≡ sets fr' a xs → r ≡ a + length xs → Chose lim s f (k + 1) nu ro co fr nu' ro' co' fr'' t r
        refused e ef er = chose_free lim s f k P (ap (is_table lim s) (sym ex) ∙ sym F.table ∙ e) S l R.free ex ef er

-- where the two ways meet, each list and number is what its way left
pub moved : {lim : Limits} {s : ℕ → Segment} {f : ℕ → List ℕ} {nu ro co fr nu' ro' co' fr' nu'' ro'' co'' fr'' : List ℕ} {t a t' a' k : ℕ} → Chose lim s f k nu ro co fr nu' ro' co' fr' t a
    → nu'' ≡ nu' → ro'' ≡ ro' → co'' ≡ co' → fr'' ≡ fr' → t' ≡ t → a' ≡ a → Chose lim s f k nu ro co fr nu'' ro'' co'' fr'' t' a'
moved P x y z w u v = rw (x, y, z, w, u, v) P

abbrev pub invariant-loop-k : goal.invariant-loop-k
invariant-loop-k l = Chose l.limits (ruling l.rulings) (set_of l.sets) l.k l.initial.numbers l.initial.rows l.initial.columns l.initial.free l.numbers l.rows l.columns l.free l.tables l.at
