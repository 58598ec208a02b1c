-- The laws of the lists of rulings that several proofs cite.
pub mod Runs
pub mod Parts
pub mod Rectangles
