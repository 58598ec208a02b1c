-- `lines::number` meets its contract: after i turns the first i places have their line numbers.
use mathlib.Core.Path.{◌≡◌}
use mathlib.Core.List.{List, map}
use Prim.Native.Nat.{ℕ}
use lib.ListN.{get_or}
use Rattle.lists.specs.Lists.{below, written}
use Rattle.lines.specs.Lines.{sorted_positions, line_at}
use Rattle.lines.proofs.Sorted.{prior}
use Rattle.lines.proofs.number.Given as goal

-- the first i places are numbered; `last` and `line` are those of the place before
pub record Walk (positions : List ℕ) (limit : ℕ) (l l' : List ℕ) (last line i : ℕ) : Type 0 where
  pub content : l' ≡ written (map (line_at limit (sorted_positions positions)) (below i)) l
  pub last_is : last ≡ get_or (sorted_positions positions) (prior i) 0
  pub line_is : line ≡ line_at limit (sorted_positions positions) (prior i)

abbrev pub invariant-loop-i : goal.invariant-loop-i
invariant-loop-i l = Walk l.positions l.limit l.initial.numbers l.numbers l.line.last l.line.number l.i
