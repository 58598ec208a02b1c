-- The laws of the settings that `params` and the crates above it cite.
pub mod Every
pub mod Bounds
pub mod Passed
pub mod Limits
