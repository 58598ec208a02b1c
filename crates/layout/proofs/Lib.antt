-- The laws that `layout`'s proofs and the crates above it cite.
pub mod Every
pub mod Signed
pub mod Entries
pub mod Answers
pub mod Places
pub mod Shows
pub mod Back
pub mod Levelling
pub mod Unlevelling
pub mod Pixels
pub mod Guards
