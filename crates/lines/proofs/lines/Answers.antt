-- `lines::lines` meets its contract: the positions are sorted, then numbered in that order.
use mathlib.Core.Path.{◌≡◌, sym, ap, ◌∙◌}
use mathlib.Core.List.{List, ◌++◌}
use Prim.Native.Nat.{ℕ}
use native.Mathlib.Omega.{arith}
use lib.ListN.{length, take, drop}
use lib.Seq.{take_at}
use Rattle.lists.proofs.Keep.{length_values}
use Rattle.order.specs.Order.{key_at, sorted_indexes}
use Rattle.order.proofs.Computed.{sorted_length}
use Rattle.lines.specs.Lines.{sorted_positions, line_at}
use Rattle.lines.specs.Steps.{line_numbers, Room, Ordered, Lined, Numbered}
use Rattle.lines.proofs.lines.Goals as goal

module _ {positions o o' : List ℕ} (e : o' ≡ sorted_indexes positions ++ drop (length positions) o) where
  sorted : {l l' : List ℕ} → Room (length positions) o l → length o' ≡ length o → length l' ≡ length l → Room (length positions) o' l' × Ordered positions o'
  sorted R a b = (
    record { small = R.small; order = omega (arith, R.order); numbers = omega (arith, R.numbers) },
    record {
      long = omega (arith, R.order);
      sorted =
          ap (take (length positions)) e
          ∙ take_at (sorted_indexes positions) (drop (length positions) o) (length positions) (sorted_length (key_at positions) (length positions));
    },
  )

  numbered : {limit : ℕ} {l l' : List ℕ} {r : ℕ} → Lined positions limit l l' r → Numbered positions limit o o' l' r
  numbered {limit} {l} L =
      record {
        order = e ∙ ap (λ (k : ℕ). sorted_indexes positions ++ drop k o) (sym (sorted_length (key_at positions) (length positions)));
        numbers =
            ap (take (length positions)) L.numbers
            ∙ take_at (line_numbers limit positions) (drop (length (line_numbers limit positions)) l) (length positions)
            (length_values (line_at limit (sorted_positions positions)) (length positions));
        count = L.count;
      }

pub returns : goal.returns
returns c = numbered c.sort.ensures c.number.ensures
