-- `read::count_ink` meets its contract: after i turns `n` is how many of the first i bytes are ink.
use mathlib.Core.Path.{◌≡◌}
use mathlib.Core.Bool.{not}
use lib.Dec.{eqb}
use lib.ListN.{get_or}
use Rattle.ink.specs.Ink.{many}
use Rattle.ink.proofs.read.count_ink.Given as goal

abbrev pub invariant-loop-b : goal.invariant-loop-b
invariant-loop-b l = l.n ≡ many (λ k. not (eqb (get_or l.row k 0) 0)) l.b-index
