-- The closed sets that a list of pairs makes.
pub mod Pairs
