-- `facts::measure` meets its contract: after t turns the first t tables are measured.
use mathlib.Core.Path.{◌≡◌, ap, ◌∙◌}
use mathlib.Core.List.{List, map}
use Prim.Native.Nat.{ℕ, ◌+◌, ◌≤◌, ◌<◌}
use native.Mathlib.Omega.{arith}
use lib.Ieee.{Float}
use lib.ListN.{length, get_or, take, set}
use Rattle.lists.specs.Lists.{written}
use Rattle.lists.proofs.Runs.{mapped_more}
use Rattle.listings.specs.Listed.{set_of}
use Rattle.meeting.specs.declared.segment.Segment.{Segment}
use Rattle.meeting.specs.Segments.{ruling}
use Rattle.meeting.specs.Meeting.{share_of}
use Rattle.table_lists.specs.Steps.{Measured}
use Rattle.table_lists.proofs.facts.measure.Given as goal

module _ (join : ℕ) (s : ℕ → Segment) (f : ℕ → List ℕ) (numbers ru : List ℕ) (sh : List Float) where
  pub record Turns (ru' : List ℕ) (sh' : List Float) (t : ℕ) : Type 0 where
    pub rulings : ru' ≡ written (map (λ k. length (f k)) (take t numbers)) ru
    pub shares : sh' ≡ written (map (λ k. share_of join s (f k)) (take t numbers)) sh

  pub turn : {tables t : ℕ} {ru' xs : List ℕ} {sh' : List Float} {v : Float} → Turns ru' sh' t → t < tables → tables ≤ length numbers
      → tables ≤ length ru → tables ≤ length sh → xs ≡ f (get_or numbers t 0) → v ≡ share_of join s xs → Turns (set ru' t (length xs)) (set sh' t v) (t + 1)
  turn {t = t} {ru'} {xs} {sh'} {v} T h l a b ex ev =
      record {
        rulings = mapped_more (λ k. length (f k)) numbers t ru ru' (length xs) T.rulings (omega arith) (omega arith) (ap length ex);
        shares = mapped_more (λ k. share_of join s (f k)) numbers t sh sh' v T.shares (omega arith) (omega arith) (ev ∙ ap (share_of join s) ex);
      }

  pub done : {tables t : ℕ} {ru' : List ℕ} {sh' : List Float} → Turns ru' sh' t → t ≡ tables → Measured join s f (take tables numbers) ru sh ru' sh'
  done T end =
      record {
        rulings = T.rulings ∙ ap (λ (k : ℕ). written (map (λ j. length (f j)) (take k numbers)) ru) end;
        shares = T.shares ∙ ap (λ (k : ℕ). written (map (λ j. share_of join s (f j)) (take k numbers)) sh) end;
      }

abbrev pub invariant-loop-t : goal.invariant-loop-t
invariant-loop-t l =
    Turns l.join (ruling l.rulings) (set_of l.sets) l.numbers l.initial.sizes l.initial.shares l.sizes l.shares l.t
