-- What a guard answers: nothing where no question is missed, else the first missed one.
use Rattle.std.specs.Prelude.{ℕ, Result, Ok, Err}
use Rattle.questions.specs.declared.Missed.{Missed}
use Rattle.questions.specs.declared.Missed.TheVariants.{Sides, Scale, Lengths, Shears, Counts, Rectangles, Finite, NotNegative, BoxSizes, Fractions, Minimums, Caps, FreeRules, Room, Evidence}

-- A question's number in document 01.
abbrev pub number_of : Missed → ℕ
number_of Sides = 1
number_of Scale = 2
number_of Lengths = 3
number_of Shears = 4
number_of Counts = 5
number_of Rectangles = 6
number_of Finite = 7
number_of NotNegative = 8
number_of BoxSizes = 9
number_of Fractions = 10
number_of Minimums = 11
number_of Caps = 12
number_of FreeRules = 13
number_of Room = 14
number_of Evidence = 15

-- The number of an answer: 0 where no question is missed, else the missed question's.
abbrev pub number_in : {A : Type 0} → Result A Missed → ℕ
number_in (Ok a) = 0
number_in (Err q) = number_of q
