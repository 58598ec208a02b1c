-- The laws of joined ends, which several proofs cite.
pub mod Joining
pub mod Searching
pub mod Bound
