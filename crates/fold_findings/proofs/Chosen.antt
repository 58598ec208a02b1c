-- A loop that lists the entries that pass a test from the front of another list: nothing yet, one that passes, any other, all.
use mathlib.Core.Path.{◌≡◌, refl, sym, ap, ◌∙◌}
use mathlib.Core.Bool.{Bool, true, false, cond}
use mathlib.Core.List.{List, [], ◌∷◌, ◌++◌, append-nil}
use Prim.Native.Nat.{ℕ, suc, ◌+◌, ◌≤◌, ◌<◌, zero-le}
use native.Mathlib.Numerals.{add-one}
use native.Mathlib.Omega.{arith}
use lib.ListN.{length, get_or, take, set, length-append}
use lib.Seq.{take_all}
use Rattle.lists.specs.Lists.{keep, written}
use Rattle.lists.proofs.Keep.{keep_append}
use Rattle.lists.proofs.Written.{written_more}
use Rattle.findings.specs.Steps.{Front}
use Rattle.findings.proofs.Fronts.{next_taken}

-- Those of the first k entries that pass are listed, and there are n of them.
pub record Chosen (q : ℕ → Bool) (xs out₀ out : List ℕ) (n k : ℕ) : Type 0 where
  pub low : n ≤ k
  pub count : n ≡ length (keep q (take k xs))
  pub list : out ≡ written (keep q (take k xs)) out₀

pub chosen_none : (q : ℕ → Bool) (xs out₀ : List ℕ) → Chosen q xs out₀ out₀ 0 0
chosen_none q xs out₀ = record { low = zero-le; count = refl; list = refl }

module _ {q : ℕ → Bool} {xs out₀ out : List ℕ} {n k : ℕ} (C : Chosen q xs out₀ out n k) where
  next : {b : Bool} → k < length xs → q (get_or xs k 0) ≡ b → keep q (take (k + 1) xs) ≡ keep q (take k xs) ++ cond b (get_or xs k 0 ∷ []) []
  next l e =
      ap (keep q) (next_taken xs k l) ∙ keep_append q (take k xs) (get_or xs k 0 ∷ [])
      ∙ ap (λ (b : Bool). keep q (take k xs) ++ cond b (get_or xs k 0 ∷ []) []) e

  pub chosen_one : {t : Bool} → k < length xs → length xs ≤ length out₀ → t ≡ q (get_or xs k 0) → t ≡ true → Chosen q xs out₀ (set out n (get_or xs k 0)) (n + 1) (k + 1)
  chosen_one l room e h =
      let more : keep q (take (k + 1) xs) ≡ keep q (take k xs) ++ (get_or xs k 0 ∷ []) = next l (sym e ∙ h) in
      record {
        low = omega (arith, C.low);
        count = add-one n ∙ ap suc C.count ∙ sym (ap length more ∙ length-append (keep q (take k xs)) (get_or xs k 0 ∷ []) ∙ add-one _);
        list = written_more (keep q (take k xs)) out₀ (get_or xs k 0) C.list (sym C.count) (omega (arith, C.low)) more;
      }

  pub chosen_past : {t : Bool} → k < length xs → t ≡ q (get_or xs k 0) → t ≡ false → Chosen q xs out₀ out n (k + 1)
  chosen_past l e h =
      let same : keep q (take (k + 1) xs) ≡ keep q (take k xs) = next l (sym e ∙ h) ∙ append-nil (keep q (take k xs)) in
      record {
        low = omega (arith, C.low);
        count = C.count ∙ ap length (sym same);
        list = C.list ∙ ap (λ (s : List ℕ). written s out₀) (sym same);
      }

  pub chosen_all : length xs ≤ k → Front (keep q xs) out₀ out n
  chosen_all h =
      let e : take k xs ≡ xs = take_all k xs h in
      record { count = C.count ∙ ap (λ (s : List ℕ). length (keep q s)) e; list = C.list ∙ ap (λ (s : List ℕ). written (keep q s) out₀) e }

  -- where the two ways meet, the list and the count are what the way left
  pub chosen_moved : {out' : List ℕ} {n' : ℕ} → out' ≡ out → n' ≡ n → Chosen q xs out₀ out' n' k
  chosen_moved e f = rw (e, f) C
