-- Numbers within a gap of each other, in closed sets: what a caller of `sets` promises.
use Rattle.std.specs.Prelude.{◌≡◌, Bool, true, List, ℕ, ◌-◌, min, max, leb, length, get_or}
use Rattle.sets.specs.Closed.{Below, Listed}
use Rattle.sets.specs.Listing.{closed_sets}
use Rattle.gaps.specs.Answers.{Answered}

-- Two numbers differ by at most the gap.
abbrev pub near : ℕ → ℕ → ℕ → Bool
near gap a b = leb (max a b - min a b) gap

-- Two places touch when their numbers differ by at most the gap.
abbrev pub touch : List ℕ → ℕ → ℕ → ℕ → Bool
touch values gap i j = near gap (get_or values i 0) (get_or values j 0)

-- The rule that `touch` decides.
abbrev pub Touch : List ℕ → ℕ → ℕ → ℕ → Type 0
Touch values gap i j = touch values gap i j ≡ true

-- The closed sets of places.
abbrev pub gap_sets : List ℕ → ℕ → List (List ℕ)
gap_sets values gap = closed_sets (length values) (touch values gap)

-- With room, the closed sets are listed; without, 1 is returned and nothing is written.
pub record GapSets (values : List ℕ) (gap : ℕ) (fits : Bool) (p m e w p' m' e' w' : List ℕ) (r k : ℕ) : Type 0 where
  pub answered : Answered fits (gap_sets values gap) p m e w p' m' e' w' r k
  -- each set that is listed is closed, and each closed set is listed once
  pub listed : Listed (Below (length values)) (Touch values gap) (gap_sets values gap)
