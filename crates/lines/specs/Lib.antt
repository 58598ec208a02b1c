-- What a reader must believe of `lines`: which line each position is on. `Steps` is not needed to read the contracts.
pub mod Lines
pub mod Steps
