-- Document 01's "Questions put to a page, in order".
use Rattle.std.specs.Prelude.{ℕ, Bool, cond, List, [], ◌∷◌}

-- A question: its number in document 01, and whether its answer is yes.
abbrev pub Question : Type 0
Question = ℕ × Bool

-- The number at the first "no", and 0 where every answer is yes.
abbrev pub first_missed : List Question → ℕ
first_missed [] = 0
first_missed (q ∷ qs) = cond q.1 (first_missed qs) q.0
