-- The laws of the passes over the sets.
pub mod Passes
