-- What the contracts of `levelling` say. `Steps` is not needed to read the contracts.
pub mod Steps
