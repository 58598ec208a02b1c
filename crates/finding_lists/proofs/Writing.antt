-- A loop that stores one finding after the other at their ranks: nothing yet, room for the next, one more, all.
use mathlib.Core.Path.{◌≡◌, refl, sym, ap, ap₂, subst, ◌∙◌}
use mathlib.Core.Bool.{Bool, true, ◌&&◌}
use mathlib.Core.List.{List, [], ◌∷◌, ◌++◌, map}
use mathlib.Core.Bool.{cond}
use mathlib.Core.Logic.{inl, inr}
use Prim.Native.Nat.{ℕ, zero, suc, ◌+◌, ◌≤◌, ◌<◌, zero-le}
use native.Mathlib.Nat.{eq-or-lt_of_le}
use lib.Dec.{ltb}
use borrow.Author.Tests.{lt-ltb, le-ltb}
use native.Mathlib.Numerals.{add-one}
use native.Mathlib.Omega.{arith}
use lib.ListN.{length, get_or, take, drop, length-take, length-drop}
use lib.Seq.{take-suc, get_or-drop}
use Rattle.lists.specs.Lists.{below, every_below}
use Rattle.lists.proofs.Every.{every_more}
use Rattle.lists.proofs.Keep.{length_values, values_more, map_same, below_in}
use Rattle.math.specs.Constants as Constants
use Rattle.evidence.specs.declared.finding.Evidence.{Evidence}
use Rattle.evidence.specs.declared.finding.Kind.TheVariants.{Fold}
use Rattle.evidence.specs.declared.finding.Row.{Row}
use Rattle.evidence.specs.declared.finding.Finding.{Finding}
use Rattle.evidence.specs.Finding.{row_of, finite_finding}
use Rattle.finding_lists.specs.Columns.{Columns}
use Rattle.finding_lists.specs.Steps.{Stored, Roomy, WroteOne, Wrote, RanksGiven}
use Rattle.finding_lists.proofs.Storing.{stored_none, stored_then, still_roomy}

-- The first k of n findings are stored.
pub record Writing (f : ℕ → Finding) (ranks : List ℕ) (at n : ℕ) (l₀ : Columns) (k : ℕ) (l : Columns) (all : Bool) : Type 0 where
  pub up_to : k ≤ n
  pub wrote : Wrote f k ranks at l₀ l all

module _ (f : ℕ → Finding) {ranks : List ℕ} {at n : ℕ} {l₀ : Columns} (R : RanksGiven ranks at n l₀) where
  abbrev rows : ℕ → List Row
  rows k = map (λ j. row_of (f j)) (below k)

  pub writing_none : Writing f ranks at n l₀ 0 l₀ true
  unfolding every_below
  writing_none = record { up_to = zero-le; wrote = record { stored = stored_none []; finite = refl } }

  module _ {k : ℕ} {l : Columns} {all : Bool} (W : Writing f ranks at n l₀ k l all) where
    -- the next finding has its rank and its place
    pub writing_room : k < n → (at + k < length ranks) × Roomy (get_or ranks (at + k) 0 + 1) l
    writing_room h = (
      let r : at + n ≤ length ranks = R.long in omega arith,
      still_roomy (rows k) (take k (drop at ranks)) (R.room k h) W.wrote.stored,
    )

    pub writing_more : {found : Finding} {l' : Columns} {one : Bool} → k < n → found ≡ f k → WroteOne found (get_or ranks (at + k) 0) l l' one
        → Writing f ranks at n l₀ (k + 1) l' (all && one)
    writing_more {found} {l'} h e S =
        record {
          up_to = omega arith;
          wrote = record {
            stored = subst (λ (rs : List Row). Stored rs (take (k + 1) (drop at ranks)) l₀ l') (sym (values_more (λ j. row_of (f j)) k))
                (subst (λ (ps : List ℕ). Stored (rows k ++ (row_of (f k) ∷ [])) ps l₀ l') (sym next_rank)
                (stored_then (rows k) (row_of (f k) ∷ []) (take k (drop at ranks)) (get_or ranks (at + k) 0 ∷ []) (length_values (λ j. row_of (f j)) k ∙ sym ranks_long) W.wrote.stored
                (subst (λ (g : Finding). Stored (row_of g ∷ []) (get_or ranks (at + k) 0 ∷ []) l l') e S.stored)));
            finite = ap₂ ◌&&◌ W.wrote.finite (S.finite ∙ ap finite_finding e) ∙ sym (every_more k (λ j. finite_finding (f j)));
          };
        }
      where
        ranks_long : length (take k (drop at ranks)) ≡ k
        ranks_long = let a = length-take k (drop at ranks) in let b = length-drop at ranks in let r : at + n ≤ length ranks = R.long in omega arith

        next_rank : take (k + 1) (drop at ranks) ≡ take k (drop at ranks) ++ (get_or ranks (at + k) 0 ∷ [])
        next_rank =
            ap (λ (j : ℕ). take j (drop at ranks)) (add-one k)
            ∙ take-suc (drop at ranks) k 0 (let a = length-drop at ranks in let r : at + n ≤ length ranks = R.long in omega arith)
            ∙ ap (λ (p : ℕ). take k (drop at ranks) ++ (p ∷ [])) (get_or-drop at ranks k 0)

    pub writing_all : n ≤ k → Wrote f n ranks at l₀ l all
    writing_all h = let e : k ≡ n = omega (arith, W.up_to) in subst (λ (m : ℕ). Wrote f m ranks at l₀ l all) e W.wrote

-- ---- findings that a function gives, one after the other

every_same : (n : ℕ) (p q : ℕ → Bool) → ((k : ℕ) → k < n → p k ≡ q k) → every_below n p ≡ every_below n q
unfolding every_below
every_same zero p q h = refl
every_same (suc n) p q h = ap₂ ◌&&◌ (every_same n p q (λ k l. h k (omega arith))) (h n (omega arith))

wrote_same : (f g : ℕ → Finding) (n : ℕ) {ranks : List ℕ} {at : ℕ} {l l' : Columns} {all : Bool} → ((k : ℕ) → k < n → f k ≡ g k) → Wrote f n ranks at l l' all → Wrote g n ranks at l l' all
wrote_same f g n {ranks} {at} {l} {l'} same W =
    record {
      stored = subst (λ (rs : List Row). Stored rs (take n (drop at ranks)) l l') (map_same (λ k. row_of (f k)) (λ k. row_of (g k)) (below n) (λ k m. ap row_of (same k (below_in n k m)))) W.stored;
      finite = W.finite ∙ every_same n (λ k. finite_finding (f k)) (λ k. finite_finding (g k)) (λ k l. ap finite_finding (same k l));
    }

-- The first k of n findings are stored, each of them as P says.
pub record Putting (P : ℕ → Finding → Type 0) (ranks : List ℕ) (at n : ℕ) (l₀ : Columns) (k : ℕ) (l : Columns) (all : Bool) : Type 0 where
  pub finding : ℕ → Finding
  pub made : (j : ℕ) → j < k → P j (finding j)
  pub writing : Writing finding ranks at n l₀ k l all

module _ (P : ℕ → Finding → Type 0) {ranks : List ℕ} {at n : ℕ} {l₀ : Columns} (R : RanksGiven ranks at n l₀) where
  -- any finding will do where none is stored
  nothing : ℕ → Finding
  nothing k =
      let none : Evidence = record { value = Constants.zero; threshold = Constants.zero; llr = Constants.zero } in
      record { log_odds = Constants.zero; bbox = record { x0 = 0; y0 = 0; x1 = 0; y1 = 0 }; first = none; kind = Fold true Constants.zero }

  pub putting_none : Putting P ranks at n l₀ 0 l₀ true
  putting_none = record { finding = nothing; made = λ j l. absurd (omega arith); writing = writing_none nothing R }

  module _ {k : ℕ} {l : Columns} {all : Bool} (W : Putting P ranks at n l₀ k l all) where
    pub putting_room : k < n → (at + k < length ranks) × Roomy (get_or ranks (at + k) 0 + 1) l
    putting_room h = writing_room W.finding R W.writing h

    pub putting_more : {found : Finding} {l' : Columns} {one : Bool} → k < n → P k found → WroteOne found (get_or ranks (at + k) 0) l l' one
        → Putting P ranks at n l₀ (k + 1) l' (all && one)
    putting_more {found} h p S =
        record {
          finding = next;
          made = λ j m. elim (eq-or-lt_of_le (less m)) [ inl e ↦ subst (λ (i : ℕ). P i (next i)) (sym e) (rw at_k p) | inr q ↦ rw (before j q) (W.made j q) ];
          writing = writing_more next R (record { up_to = W.writing.up_to; wrote = wrote_same W.finding next k (λ j q. sym (before j q)) W.writing.wrote }) h (sym at_k) S;
        }
      where
        next : ℕ → Finding
        next j = cond (ltb j k) (W.finding j) found

        at_k : next k ≡ found
        at_k = ap (λ (t : Bool). cond t (W.finding k) found) (le-ltb k k (omega arith))

        before : (j : ℕ) → j < k → next j ≡ W.finding j
        before j q = ap (λ (t : Bool). cond t (W.finding j) found) (lt-ltb j k q)

        less : {j : ℕ} → j < k + 1 → j ≤ k
        less m = omega arith

    pub putting_all : n ≤ k → (f : ℕ → Finding) → ((j : ℕ) (r : Finding) → j < n → P j r → r ≡ f j) → Wrote f n ranks at l₀ l all
    putting_all h f same =
        let e : k ≡ n = omega (arith, W.writing.up_to) in
        wrote_same W.finding f n (λ j q. same j (W.finding j) q (W.made j (omega arith))) (writing_all W.finding R W.writing h)
