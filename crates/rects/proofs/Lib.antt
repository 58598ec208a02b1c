-- The laws of rectangles that the crates above cite.
pub mod Around
pub mod Questions
pub mod Strung
