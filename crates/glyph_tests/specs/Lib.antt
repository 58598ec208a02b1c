-- What a reader must believe of one glyph box: the tests on it, in the Rust's order, and the box that it is.
pub mod Limits
pub mod Tests
pub mod Glyph
-- Not needed to read the contracts.
pub mod Steps
