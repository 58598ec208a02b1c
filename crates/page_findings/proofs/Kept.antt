-- A bundle, an array of lent lists, that is kept twice is kept. No call has such an array any more.
use mathlib.Core.Path.{◌∙◌}
use mathlib.Core.List.{List}
use denote.Ref.{MutBor}
use Rattle.page.proofs.Bundle.{Kept}

pub and_then : {A : Type 0} {a b c : List (MutBor (List A))} → Kept a b → Kept b c → Kept a c
and_then K L = record { each = λ j. L.each j ∙ K.each j }
