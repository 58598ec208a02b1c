-- The numbers of questions.
use mathlib.Core.Path.{◌≡◌}
use Rattle.std.proofs.Common.{rules}
use Rattle.questions.specs.declared.Missed.{Missed}
use Rattle.questions.specs.Missed.{number_of}

-- a missed question's number is not 0
pub some_number : (e : Missed) → number_of e ≡ 0 → ⊥
some_number e z = search rules
