-- What a reader must believe of the pixels across a ruling and beside it. `Steps` is not needed to read the contracts.
pub mod Pixels
pub mod Median
pub mod Steps
