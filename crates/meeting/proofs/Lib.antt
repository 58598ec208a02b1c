-- The laws of rulings that meet, which several proofs cite.
pub mod Rulings
pub mod Collecting
