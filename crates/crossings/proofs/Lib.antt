-- The laws of rows of crossing rulings, which several proofs cite.
pub mod Crossing
pub mod Spans
