-- Laws of the tests on one glyph box.
pub mod Frames
pub mod Bands
pub mod Halves
pub mod Tests
pub mod Narrow
