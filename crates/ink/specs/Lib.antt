-- What a reader must believe of `ink`: what ink is, how much of it a line has, and runs of it. `Steps` is not needed to read the contracts.
pub mod Ink
pub mod Places
pub mod Steps
