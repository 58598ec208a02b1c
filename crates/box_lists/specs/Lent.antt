-- What the lists hold that boxes are written to.
use Rattle.std.specs.Prelude.{ℕ, List, Float}

pub record Lent : Type 0 where
  pub rects : List ℕ
  pub marks : List ℕ
  pub coverages : List Float
