-- The laws of `tables` that several proofs cite.
pub mod Demand
pub mod Filling
pub mod Passing
pub mod Accepting
pub mod Few
