-- Why the findings by value are right.
pub mod Scores
pub mod Finite
