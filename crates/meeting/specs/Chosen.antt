-- The rulings as they are given: a rectangle and a direction each, and which of them are chosen, by their places.
use Rattle.std.specs.Prelude.{List, ℕ}

pub record Rulings : Type 0 where
  pub rects : List ℕ
  pub directions : List ℕ
  pub chosen : List ℕ
